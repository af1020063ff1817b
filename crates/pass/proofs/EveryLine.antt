-- The lines read as the list of calls behind them does: each call of a tick moves what is read off the list by what the tick's line adds to the lines.
use mathlib.Core.Path.{◌≡◌, refl, sym, ap, ◌∙◌}
use Prim.Native.Nat.{ℕ, ◌+◌, ◌-◌, ◌*◌, ◌/◌}
use native.Mathlib.Nat.{le-div_iff_mul-le}
use native.Mathlib.Omega.{arith}
use mathlib.Core.Bool.{Bool, true, false, cond, not, ◌&&◌, ◌||◌, and-false, and-not_self, and_assoc}
use mathlib.Core.List.{List, [], ◌∷◌, head-eq_of_cons-eq, tail-eq_of_cons-eq}
use lib.Dec.{leb}
use Rattle.std.specs.Prelude.{if◌then◌else◌, ◌==◌, Option, Some, None, Result, Ok, Err}
use Rattle.std.specs.Option.{option_map_or}
use Rattle.std.specs.Result.{result_and}
use Rattle.std.proofs.lemmas.Bool.{le-leb}
use Rattle.std.proofs.lemmas.Bool.Decides.{nat_tests}
use Rattle.tick.specs.declared.action.GateAction.{GateAction}
use Rattle.tick.specs.declared.inputs.TickInput.{TickInput}
use Rattle.tick.specs.declared.inputs.SightInput.{SightInput}
use Rattle.tick.specs.declared.inputs.PlanInput.{PlanInput}
use Rattle.tick.specs.declared.inputs.SteerInput.{SteerInput}
use Rattle.tick.specs.declared.inputs.FinishInput.{FinishInput}
use Rattle.tick.specs.declared.command.ManeuverCommand.{ManeuverCommand}
use Rattle.tick.specs.declared.refusal.Refusal.{Refusal}
use Rattle.tick.specs.declared.refusal.Refusal.TheVariants as Why
use Rattle.tick.specs.declared.start.Start.{Start}
use Rattle.tick.specs.Command.{command_from}
use Rattle.tick.specs.Outcome.{takes}
use Rattle.tick.specs.Start.{IsStart}
use Rattle.tick.specs.Tally.{is_full}
use Rattle.control_context.specs.Divergence.{is_recovering}
use Rattle.control_context.specs.StateEstimate as ContextSight
use Rattle.control_context.specs.Decision as ContextPlan
use Rattle.control_context.specs.declared.maneuvers.PlanAnswer.{PlanAnswer}
use Rattle.body_controller.specs.declared.BodyController.{BodyController}
use Rattle.body_controller.specs.declared.Called.{Called}
use Rattle.body_controller.specs.declared.Turn.TheVariants as Turns
use Rattle.body_controller.specs.declared.sight.Sighted.{Sighted}
use Rattle.body_controller.specs.declared.steer.Steered.{Steered}
use Rattle.body_controller.specs.InTurn.{from_plan}
use Rattle.body_controller.specs.Turn.{is_sight, is_plan, steered_at}
use Rattle.body_controller.specs.Controller as Controller
use Rattle.body_controller.specs.Controller.{started}
use Rattle.body_controller.specs.Sight.{sighted, sight_of}
use Rattle.body_controller.specs.Plan as Plan
use Rattle.body_controller.specs.Plan.{plan_of}
use Rattle.body_controller.specs.Steer.{steer_of}
use Rattle.body_controller.specs.Finish.{finished, finish_of}
use Rattle.plain_drive.specs.Calls.{Call, sight, plan, steer, finish, Reply, outcome, answer, accepted, is_tick, took, is_reset}
use Rattle.plain_drive.specs.PlainDrive as Plain
use Rattle.plain_drive.specs.EveryList.{reply_by, sight_reply, Meets, Entry, Made, calls_of, since, holding, is_active}
use Rattle.plain_drive.proofs.EveryList.{follows_plain_drive}
use Rattle.plain_drive.proofs.Simulation.{sight_follows, plan_follows, steer_follows, finish_follows}
use Rattle.line_text.specs.declared.line.TickLine.{TickLine}
use Rattle.line_text.specs.declared.line.Line.{Line}
use Rattle.line_text.specs.declared.line.Line.TheVariants.{Tick}
use Rattle.tick_block.specs.declared.TickBlock.{TickBlock}
use Rattle.tick_block.specs.Block.{block_read}
use Rattle.tick_block.specs.Order.{order_tested}
use Rattle.pass.specs.declared.pass.Pass.{Pass}
use Rattle.pass.specs.declared.pass.Pass.TheVariants.{Empty, Driving}
use Rattle.pass.specs.Tick.{ended_by, ticked_with, ticked}
use Rattle.pass.specs.Pass.{driver_of, ticked_by, taken_with, refused_by, driven_with, driven}
use Rattle.pass.specs.PlainPass.{Passed}
use Rattle.pass.specs.EveryLine.{was_recovering, seen_within, EachTick, ActiveIsSeen, LinesHold, EveryLine, EveryBatchLine, DrivesWith, OneStart}
use Rattle.pass.proofs.BatchHolds.{passed}
use Rattle.pass.proofs.InTurn.{from_plan_ends}
use Rattle.pass.proofs.Read.{valid_read}

-- whether a controller is recovering
abbrev recovering_in : BodyController → Bool
recovering_in c = is_recovering c.context.divergence

-- ---- calls that leave the recovery state

sight_keeps : (c : BodyController) (i : SightInput) → recovering_in (sight_of c i).controller ≡ recovering_in c
unfolding sight_of ContextSight.seen
sight_keeps c i = go (not (is_sight c.turn)) (is_full c.tally)
  where
    go : (s t : Bool) → recovering_in (cond {A = Called Sighted} s (Controller.refused Why.OutOfTurn c) (cond t (Controller.refused Why.TickLimit c) (sighted c i))).controller ≡ recovering_in c
    go true t = refl
    go false true = refl
    go false false = refl

plan_keeps : (c : BodyController) (i : PlanInput) → recovering_in (plan_of c i).controller ≡ recovering_in c
unfolding plan_of ContextPlan.decided_on
plan_keeps c i = go (is_plan c.turn) (command_from i.mode i.words)
  where
    given : (cmd : ManeuverCommand) (failed : Bool) → recovering_in (cond {A = Called PlanAnswer} failed (Controller.refused Why.EstimatorFailed (record c { turn = Turns.Sight })) (Plan.planned c i cmd)).controller ≡ recovering_in c
    given cmd true = refl
    given cmd false = refl

    go : (b : Bool) (a : Result ManeuverCommand Refusal) → recovering_in (cond b (Plan.plan_with a c i) (Controller.refused Why.OutOfTurn c)).controller ≡ recovering_in c
    go false a = refl
    go true (Err r) = refl
    go true (Ok cmd) = given cmd i.estimator_failed

finish_keeps : (c : BodyController) (i : FinishInput) → recovering_in (finish_of c i).controller ≡ recovering_in c
unfolding finish_of
finish_keeps c i = go (steered_at c.turn)
  where
    go : (s : Option Steered) → recovering_in (option_map_or (λ s. finished c s i) s (Controller.refused Why.OutOfTurn c)).controller ≡ recovering_in c
    go None = refl
    go (Some s) = refl

-- ---- read off the list of calls

-- after one more tick
later : (t holds : Bool) (m n : ℕ) → (t || holds) && leb (cond t 0 (m + 1)) n ≡ t || (leb 1 n && (holds && leb m (n - 1)))
later true holds m n = le-leb 0 n (omega arith)
later false true m n = grind (arith, nat_tests)
later false false m n = sym (and-false (leb 1 n))

-- of no tick
abbrev IsQuiet : Reply → Type 0
IsQuiet r = (is_tick r ≡ false) × (took r ≡ false)

quiet : {A : Type 0} (f : A → Reply) → ((x : A) → IsQuiet (f x)) → (a : Result A Refusal) → IsQuiet (reply_by f a)
quiet f h (Ok x) = h x
quiet f h (Err r) = (refl, refl)

-- c was made by a list of calls, off which this is read of a sighting that at most n ticks came after
record Reads (start : Start) (seen : ℕ → Bool) (c : BodyController) : Type 0 where
  valid : IsStart start
  entries : List Entry
  made : Made start entries c
  same : (n : ℕ) → holding start entries && leb (since entries) n ≡ seen n

reads_as : (start : Start) (f g : ℕ → Bool) (c : BodyController) → ((n : ℕ) → f n ≡ g n) → Reads start f c → Reads start g c
reads_as start f g c e r = record { valid = r.valid; entries = r.entries; made = r.made; same = λ n. r.same n ∙ e n }

-- the active mark, as m·k ≤ 2048 where m ≤ 2048/k
active_is : (start : Start) (seen : ℕ → Bool) (c : BodyController) → Reads start seen c → is_active c ≡ seen (2048 / start.tick_length)
active_is start seen c r =
    let k = start.tick_length in
    let m = since r.entries in
    let e : leb (m * k) 2048 ≡ leb m (2048 / k) = grind (arith, nat_tests, le-div_iff_mul-le {k = k} {x = m} {y = 2048} r.valid.0) in
    (follows_plain_drive start r.entries c r.valid r.made).cameras ∙ ap (λ b. holding start r.entries && b) e ∙ r.same (2048 / k)

module _ (start : Start) (seen : ℕ → Bool) (c : BodyController) (r : Reads start seen c) (call : Call) (reply : Reply) (d : BodyController) (m : Meets c call reply d) where
  abbrev more : List Entry
  more = record { call = call; reply = reply } ∷ r.entries

  made_more : Made start more d
  unfolding Made
  made_more = (c, r.made, m)

  resets : Plain.resets_after start (calls_of r.entries) call ≡ is_reset call || (recovering_in c && not (recovering_in d))
  unfolding calls_of
  resets = rw (← (follows_plain_drive start r.entries c r.valid r.made).state, ← (follows_plain_drive start more d r.valid made_more).state) refl

  -- after a call that is no tick and no reset call
  within_tick : is_reset call ≡ false → IsQuiet reply → Reads start (λ n. not (recovering_in c && not (recovering_in d)) && seen n) d
  unfolding holding since
  within_tick s q =
      let still = not (recovering_in c && not (recovering_in d)) in
      record {
        valid = r.valid;
        entries = more;
        made = made_more;
        same = λ n. rw (q.1, q.0, resets, s) (and_assoc still (holding start r.entries) (leb (since r.entries) n) ∙ ap (λ b. still && b) (r.same n));
      }

  -- after a tick, which leaves the recovery state
  begins : is_reset call ≡ false → (a : GateAction) → reply ≡ outcome a → recovering_in d ≡ recovering_in c → Reads start (λ n. takes a || (leb 1 n && seen (n - 1))) d
  unfolding holding since
  begins s a o e = record {
    valid = r.valid;
    entries = more;
    made = made_more;
    same = λ n. rw (o, resets, s, e, and-not_self (recovering_in c), ← r.same (n - 1)) (later (takes a) (holding start r.entries) (since r.entries) n);
  }

-- ---- the calls of a tick

-- what sight left is read up to steer, which may end the recovery that the tick began with
module _ (start : Start) (before : Bool) (seen : ℕ → Bool) where
  abbrev Open : BodyController → Type 0
  Open c = Reads start seen c × (recovering_in c ≡ before)

  abbrev Closing : BodyController → Type 0
  Closing c = Reads start (λ n. not (before && not (recovering_in c)) && seen n) c

  plan_open : (i : PlanInput) (c : BodyController) → Open c → Open (plan_of c i).controller
  plan_open i c o = (
    reads_as start _ _ _ (λ n. rw (plan_keeps c i, and-not_self (recovering_in c)) refl)
        (within_tick start seen c o.0 (plan i) _ _ (plan_of c i, refl, refl, refl) refl (quiet answer (λ p. (refl, refl)) (plan_of c i).answer)),
    plan_keeps c i ∙ o.1,
  )

  steer_closes : (i : SteerInput) (c : BodyController) → Open c → Closing (steer_of c i).controller
  steer_closes i c o =
      reads_as start _ _ _ (λ n. rw o.1 refl)
      (within_tick start seen c o.0 (steer i) _ _ (steer_of c i, refl, refl, refl) refl (quiet (λ t. accepted) (λ t. (refl, refl)) (steer_of c i).answer))

  finish_closes : (i : FinishInput) (c : BodyController) → Closing c → Closing (finish_of c i).controller
  finish_closes i c r =
      reads_as start _ _ _ (λ n. rw (finish_keeps c i, and-not_self (recovering_in c)) refl)
      (within_tick start _ c r (finish i) _ _ (finish_of c i, refl, refl, refl) refl (quiet (λ f. accepted) (λ f. (refl, refl)) (finish_of c i).answer))

  tick_closes : (i : TickInput) (c : BodyController) → Open c → Closing (from_plan c i).controller
  tick_closes i = from_plan_ends Open Closing i (record {
    closes = λ c o. reads_as start _ _ c (λ n. rw (o.1, and-not_self before) refl) o.0;
    plans = plan_open i.plan;
    steers = steer_closes i.steer;
    finishes = finish_closes i.finish;
  })

-- ---- the lines

no_ticks : (P : TickLine → List Line → Type 0) → EachTick P []
no_ticks P [] older t e = cc
no_ticks P (x ∷ newer) older t e = cc

more_ticks : (P : TickLine → List Line → Type 0) (line : Line) (lines : List Line) → ((t : TickLine) → line ≡ Tick t → P t lines) → EachTick P lines → EachTick P (line ∷ lines)
more_ticks P line lines here there [] older t e = rw (← tail-eq_of_cons-eq e) (here t (head-eq_of_cons-eq e))
more_ticks P line lines here there (x ∷ newer) older t e = there newer older t (tail-eq_of_cons-eq e)

-- a pass that drives, and one that has not begun, behind these lines
record Told (start : Start) (lines : List Line) (c : BodyController) : Type 0 where
  reads : Reads start (λ n. seen_within n lines) c
  before : was_recovering lines ≡ recovering_in c
  right : EachTick (ActiveIsSeen start.tick_length) lines

record Unbegun (lines : List Line) : Type 0 where
  seen : (n : ℕ) → seen_within n lines ≡ false
  before : was_recovering lines ≡ false
  none : EachTick (λ t older. ⊥) lines

abbrev Stands : List Line → Pass → Type 0
Stands lines Empty = Unbegun lines
Stands lines (Driving c) = (start : Start) × Told start lines c

refused_stands : (r : Refusal) (p : Pass) (lines : List Line) → Stands lines p → Stands ((refused_by r p).line ∷ lines) (refused_by r p).pass
unfolding seen_within was_recovering
refused_stands r Empty lines s = record { seen = s.seen; before = s.before; none = more_ticks _ _ lines (λ t e. cc) s.none }
refused_stands r (Driving c) lines s = (s.0, record { reads = s.1.reads; before = s.1.before; right = more_ticks _ _ lines (λ t e. cc) s.1.right })

module _ (start : Start) (lines : List Line) (c : BodyController) (told : Told start lines c) (i : TickInput) where
  -- a tick that took this outcome, from the controller after sight
  ended_told : (a : GateAction) (d : BodyController) → recovering_in d ≡ recovering_in c → Reads start (λ n. takes a || (leb 1 n && seen_within (n - 1) lines)) d
      → (let t = ended_by (from_plan d i) c.tally.ticks a in Told start (Tick t.line ∷ lines) t.controller)
  unfolding seen_within was_recovering
  ended_told a d e r =
      let closed = tick_closes start (was_recovering lines) _ i d (r, e ∙ sym told.before) in
      record {
        reads = closed;
        before = refl;
        right = more_ticks _ _ lines (λ t s. let same : (ended_by (from_plan d i) c.tally.ticks a).line ≡ t = cc in rw (← same) (active_is start _ _ closed)) told.right;
      }

  tick_stands : (p : Pass) → Stands lines p → Stands ((driven_with (ticked c i) p).line ∷ lines) (driven_with (ticked c i) p).pass
  tick_stands p s = go (sight_of c i.sight).answer refl
    where
      go : (a : Result Sighted Refusal) → (sight_of c i.sight).answer ≡ a
          → (let d = driven_with (ticked_with a c (sight_of c i.sight).controller i) p in Stands (d.line ∷ lines) d.pass)
      go (Ok x) e =
          let keeps = sight_keeps c i.sight in
          (start, ended_told x.action _ keeps (begins start _ c told.reads (sight i.sight) _ _ (sight_of c i.sight, refl, refl, refl) refl x.action (ap sight_reply e) keeps))
      go (Err r) e = refused_stands r p lines s

first_stands : (lines : List Line) (b : TickBlock) → IsStart (record { tick_length = b.tick_length }) → Unbegun lines
    → (let d = driven_with (ticked_by (driver_of Empty b) b) Empty in Stands (d.line ∷ lines) d.pass)
first_stands lines b valid u = go (b.number == 0)
  where
    start : Start
    start = record { tick_length = b.tick_length }

    begun : Told start lines (started start)
    begun = record {
      reads = record { valid = valid; entries = []; made = unfold Made in refl; same = λ n. unfold holding in sym (u.seen n) };
      before = u.before;
      right = λ newer older t e. absurd (u.none newer older t e);
    }

    go : (zero : Bool) → (let d = driven_with (ticked_by (if zero then Ok (started (record { tick_length = b.tick_length })) else Err Why.Order) b) Empty in Stands (d.line ∷ lines) d.pass)
    go true = tick_stands start lines (started start) begun b.inputs Empty u
    go false = refused_stands Why.Order Empty lines u

later_stands : (lines : List Line) (c : BodyController) (b : TickBlock) → Stands lines (Driving c)
    → (let d = driven_with (ticked_by (driver_of (Driving c) b) b) (Driving c) in Stands (d.line ∷ lines) d.pass)
later_stands lines c b s = go (order_tested b.tick_length c.context.start.tick_length b.number c.tally.ticks)
  where
    go : (a : Result (Unit {0}) Refusal) → (let d = driven_with (ticked_by (result_and a (Ok c)) b) (Driving c) in Stands (d.line ∷ lines) d.pass)
    go (Ok u) = tick_stands s.0 lines c s.1 b.inputs (Driving c) s
    go (Err r) = refused_stands r (Driving c) lines s

block_stands : (block : List ℕ) (p : Pass) (lines : List Line) → Stands lines p → Stands ((driven p block).line ∷ lines) (driven p block).pass
block_stands block p lines s = go (block_read block) refl p s
  where
    go : (a : Result TickBlock Refusal) → block_read block ≡ a → (p : Pass) → Stands lines p → (let d = driven_with (taken_with a p) p in Stands (d.line ∷ lines) d.pass)
    go (Err r) e p s = refused_stands r p lines s
    go (Ok b) e Empty s = first_stands lines b (valid_read block b e) s
    go (Ok b) e (Driving c) s = later_stands lines c b s

-- ---- any list of blocks

stands : (blocks : List (List ℕ)) (lines : List Line) (q : Pass) → Passed blocks lines q → Stands lines q
unfolding Passed seen_within was_recovering
stands [] [] q m = rw m (record { seen = λ n. refl; before = refl; none = no_ticks _ })
stands [] (line ∷ lines) q m = absurd m
stands (block ∷ blocks) [] q m = absurd m
stands (block ∷ blocks) (line ∷ lines) q m = rw (m.2, m.3) (block_stands block m.0 lines (stands blocks lines m.0 m.1))

pub every_line : EveryLine
every_line blocks lines q m = go q (stands blocks lines q m)
  where
    go : (q : Pass) → Stands lines q → LinesHold lines q
    go Empty s = s.none
    go (Driving c) s = let r = s.1.reads in rw (follows_plain_drive s.0 r.entries c r.valid r.made).chosen s.1.right

pub every_batch_line : EveryBatchLine
every_batch_line n bytes = every_line _ _ _ (passed n Empty bytes [] [] (unfold Passed in refl))

-- ---- the start

pub one_start : OneStart
one_start c block = go (block_read block)
  where
    Same : BodyController → Type 0
    Same d = d.context.start ≡ c.context.start

    tick : (i : TickInput) (a : Result Sighted Refusal) → DrivesWith c.context.start (driven_with (ticked_with a c (sight_of c i.sight).controller i) (Driving c)).pass
    tick i (Ok s) = from_plan_ends Same Same i (record {
      closes = λ d e. e;
      plans = λ d e. (plan_follows d i.plan d.context.start).start ∙ e;
      steers = λ d e. (steer_follows d i.steer d.context.start).start ∙ e;
      finishes = λ d e. (finish_follows d i.finish d.context.start).start ∙ e;
    }) _ (sight_follows c i.sight).start
    tick i (Err r) = refl

    driver : (b : TickBlock) (a : Result (Unit {0}) Refusal) → DrivesWith c.context.start (driven_with (ticked_by (result_and a (Ok c)) b) (Driving c)).pass
    driver b (Ok u) = tick b.inputs (sight_of c b.inputs.sight).answer
    driver b (Err r) = refl

    go : (a : Result TickBlock Refusal) → DrivesWith c.context.start (driven_with (taken_with a (Driving c)) (Driving c)).pass
    go (Ok b) = driver b (order_tested b.tick_length c.context.start.tick_length b.number c.tally.ticks)
    go (Err r) = refl
