-- The lines of any list of blocks are the plain drive's, as the calls that the blocks make follow it.
use mathlib.Core.Path.{◌≡◌, refl, sym, ap, ◌∙◌}
use Prim.Native.Nat.{ℕ}
use mathlib.Core.Bool.{Bool, true, false}
use mathlib.Core.List.{List, [], ◌∷◌, head-eq_of_cons-eq}
use Rattle.std.specs.Prelude.{if◌then◌else◌, ◌==◌, Some, Result, Ok, Err}
use Rattle.std.specs.Result.{result_and}
use Rattle.linear.specs.declared.Vector3f.{Vector3f}
use Rattle.tick.specs.declared.action.GateAction.{GateAction}
use Rattle.tick.specs.declared.inputs.TickInput.{TickInput}
use Rattle.tick.specs.declared.refusal.Refusal.{Refusal}
use Rattle.tick.specs.declared.refusal.Refusal.TheVariants as Why
use Rattle.tick.specs.declared.start.Start.{Start}
use Rattle.tick.specs.Refusal.{refusal_number, number_of}
use Rattle.tick.specs.Start.{IsStart}
use Rattle.tick.specs.Tally.{count_list}
use Rattle.control_context.specs.declared.maneuvers.PlanAnswer.{PlanAnswer}
use Rattle.body_controller.specs.declared.sight.Sighted.{Sighted}
use Rattle.body_controller.specs.declared.finish.Finished.{Finished}
use Rattle.body_controller.specs.declared.BodyController.{BodyController}
use Rattle.body_controller.specs.declared.Called.{Called}
use Rattle.body_controller.specs.Controller.{started, refused}
use Rattle.body_controller.specs.Sight.{sight_of}
use Rattle.body_controller.specs.Plan.{plan_of}
use Rattle.body_controller.specs.Steer.{steer_of}
use Rattle.body_controller.specs.Finish.{finish_of}
use Rattle.body_controller.specs.InTurn.{if_accepted, from_steer, from_plan}
use Rattle.plain_drive.specs.Calls.{Call, sight, plan, steer, finish, Reply}
use Rattle.plain_drive.specs.PlainDrive as Plain
use Rattle.plain_drive.specs.EveryList.{sight_reply, plan_reply, steer_reply, finish_reply, Meets, Entry, Made, calls_of, replies_of, drive_of}
use Rattle.plain_drive.proofs.EveryList.{follows_plain_drive}
use Rattle.line_text.specs.declared.line.Line.{Line}
use Rattle.line_text.specs.declared.line.Line.TheVariants as Lines
use Rattle.tick_block.specs.declared.TickBlock.{TickBlock}
use Rattle.tick_block.specs.Block as Blocks
use Rattle.pass.specs.declared.pass.Pass.{Pass}
use Rattle.pass.specs.declared.pass.Pass.TheVariants.{Empty, Driving}
use Rattle.pass.specs.Tick.{ended_by, ending_of, ticked_with, ticked}
use Rattle.pass.specs.Pass.{next_number, totals_of, Driven, driver_of, ticked_by, taken_with, refused_by, driven_with, driven}
use Rattle.pass.specs.PlainPass.{mark_of, PlainPass, none, at, PlainDriven, reply_after, refusal_in, ended_at, at_finish, at_steer, at_plan, plain_tick, plain_ticks, plain_counts, refused_at, plain_take, plain_read, plain_pass, plain_marks, Passed, marks_of, StandsOn, EveryPass}
use Rattle.pass.proofs.Read.{valid_read}

-- a controller behind the calls of a pass
pub record Behind (start : Start) (calls : List Call) (c : BodyController) : Type 0 where
  pub valid : IsStart start
  pub entries : List Entry
  pub are : calls_of entries ≡ calls
  pub made : Made start entries c

-- a pass where the plain drive is
abbrev Beside : Pass → PlainPass → Type 0
Beside Empty none = Unit {0}
Beside Empty (at start calls) = ⊥
Beside (Driving c) none = ⊥
Beside (Driving c) (at start calls) = Behind start calls c

-- a block's line and pass, and the plain drive's
pub record Agrees (r : Driven) (p : PlainDriven) : Type 0 where
  pub mark : mark_of r.line ≡ p.mark
  pub pass : Beside r.pass p.pass

-- ---- one call

module _ (start : Start) (calls : List Call) (c : BodyController) (b : Behind start calls c) (call : Call) (reply : Reply) (d : BodyController) (m : Meets c call reply d) where
  after : Behind start (call ∷ calls) d
  unfolding calls_of Made
  after = record { valid = b.valid; entries = record { call = call; reply = reply } ∷ b.entries; are = ap (λ (cs : List Call). call ∷ cs) b.are; made = (c, b.made, m) }

  replied : reply ≡ reply_after start calls call
  unfolding after calls_of replies_of Plain.driven_replies
  replied = head-eq_of_cons-eq (follows_plain_drive start (record { call = call; reply = reply } ∷ b.entries) d b.valid after.made).replies ∙ ap (λ (cs : List Call). reply_after start cs call) b.are

-- the controller is where the plain drive is
stands : (start : Start) (calls : List Call) (c : BodyController) → Behind start calls c → drive_of c ≡ Plain.driven start calls
stands start calls c b = (follows_plain_drive start b.entries c b.valid b.made).state ∙ ap (λ (cs : List Call). Plain.driven start cs) b.are

-- ---- the calls of a tick, the last first

module _ (start : Start) (number : ℕ) (action : GateAction) where
  -- the line and the pass of a tick that ended with this call
  abbrev shown : Called Finished → Driven
  shown q = let t = ended_by q number action in record { line = Lines.Tick t.line; pass = Driving t.controller }

  ended_agrees : (calls : List Call) (q : Called Finished) (n : ℕ) → Behind start calls q.controller → number_of q.answer ≡ n → Agrees (shown q) (ended_at start calls number (Some action) n)
  ended_agrees calls q n b e = record { mark = rw (ending q.answer ∙ e, ← stands start calls q.controller b) refl; pass = b }
    where
      ending : (a : Result Finished Refusal) → number_of (ending_of a) ≡ number_of a
      ending (Ok x) = refl
      ending (Err r) = refl

  finish_agrees : (calls : List Call) (c : BodyController) (i : TickInput) → Behind start calls c → Agrees (shown (finish_of c i.finish)) (at_finish start calls number (Some action) i)
  finish_agrees calls c i b =
      ended_agrees (finish i.finish ∷ calls) (finish_of c i.finish) _ (after start calls c b (finish i.finish) _ _ meets) (ending (finish_of c i.finish).answer ∙ ap refusal_in (replied start calls c b (finish i.finish) _ _ meets))
    where
      meets : Meets c (finish i.finish) (finish_reply (finish_of c i.finish).answer) (finish_of c i.finish).controller
      meets = (finish_of c i.finish, refl, refl, refl)

      ending : (a : Result Finished Refusal) → number_of a ≡ refusal_in (finish_reply a)
      ending (Ok x) = refl
      ending (Err r) = refl

  steer_agrees : (calls : List Call) (c : BodyController) (i : TickInput) → Behind start calls c → Agrees (shown (from_steer c i)) (at_steer start calls number (Some action) i)
  steer_agrees calls c i b = go (steer_of c i.steer).answer refl
    where
      meets : Meets c (steer i.steer) (steer_reply (steer_of c i.steer).answer) (steer_of c i.steer).controller
      meets = (steer_of c i.steer, refl, refl, refl)

      go : (a : Result Vector3f Refusal) → (steer_of c i.steer).answer ≡ a
          → Agrees (shown (if_accepted a (steer_of c i.steer).controller (λ (d : BodyController). finish_of d i.finish))) (at_steer start calls number (Some action) i)
      go (Ok x) e = rw (sym (replied start calls c b (steer i.steer) _ _ meets) ∙ ap steer_reply e) (finish_agrees (steer i.steer ∷ calls) (steer_of c i.steer).controller i (after start calls c b (steer i.steer) _ _ meets))
      go (Err r) e = rw (sym (replied start calls c b (steer i.steer) _ _ meets) ∙ ap steer_reply e) (ended_agrees (steer i.steer ∷ calls) (refused r (steer_of c i.steer).controller) _ (after start calls c b (steer i.steer) _ _ meets) refl)

  plan_agrees : (calls : List Call) (c : BodyController) (i : TickInput) → Behind start calls c → Agrees (shown (from_plan c i)) (at_plan start calls number (Some action) i)
  plan_agrees calls c i b = go (plan_of c i.plan).answer refl
    where
      meets : Meets c (plan i.plan) (plan_reply (plan_of c i.plan).answer) (plan_of c i.plan).controller
      meets = (plan_of c i.plan, refl, refl, refl)

      go : (a : Result PlanAnswer Refusal) → (plan_of c i.plan).answer ≡ a
          → Agrees (shown (if_accepted a (plan_of c i.plan).controller (λ (d : BodyController). from_steer d i))) (at_plan start calls number (Some action) i)
      go (Ok x) e = rw (sym (replied start calls c b (plan i.plan) _ _ meets) ∙ ap plan_reply e) (steer_agrees (plan i.plan ∷ calls) (plan_of c i.plan).controller i (after start calls c b (plan i.plan) _ _ meets))
      go (Err r) e = rw (sym (replied start calls c b (plan i.plan) _ _ meets) ∙ ap plan_reply e) (ended_agrees (plan i.plan ∷ calls) (refused r (plan_of c i.plan).controller) _ (after start calls c b (plan i.plan) _ _ meets) refl)

-- ---- a block

-- what the plain drive has of the controller of a pass
ticks_beside : (p : Pass) (q : PlainPass) → Beside p q → next_number p ≡ plain_ticks q
ticks_beside Empty none m = refl
ticks_beside Empty (at start calls) m = absurd m
ticks_beside (Driving c) none m = absurd m
ticks_beside (Driving c) (at start calls) m = ap (λ (s : Plain.DriveState). s.ticks) (stands start calls c m)

counts_beside : (p : Pass) (q : PlainPass) → Beside p q → count_list (totals_of p).counts ≡ plain_counts q
counts_beside Empty none m = refl
counts_beside Empty (at start calls) m = absurd m
counts_beside (Driving c) none m = absurd m
counts_beside (Driving c) (at start calls) m = ap (λ (s : Plain.DriveState). s.counts) (stands start calls c m)

refused_agrees : (r : Refusal) (p : Pass) (q : PlainPass) → Beside p q → Agrees (refused_by r p) (refused_at (refusal_number r) q)
refused_agrees r p q m = record { mark = rw (ticks_beside p q m) refl; pass = m }

-- a tick on a controller behind these calls, of a pass where the plain drive is
tick_agrees : (p : Pass) (q : PlainPass) → Beside p q → (start : Start) (calls : List Call) (c : BodyController) (i : TickInput) → Behind start calls c
    → Agrees (driven_with (ticked c i) p) (plain_tick q start calls i)
tick_agrees p q beside start calls c i m = go (sight_of c i.sight).answer refl
  where
    meets : Meets c (sight i.sight) (sight_reply (sight_of c i.sight).answer) (sight_of c i.sight).controller
    meets = (sight_of c i.sight, refl, refl, refl)

    ticks : c.tally.ticks ≡ (Plain.driven start calls).ticks
    ticks = ap (λ (s : Plain.DriveState). s.ticks) (stands start calls c m)

    go : (a : Result Sighted Refusal) → (sight_of c i.sight).answer ≡ a → Agrees (driven_with (ticked_with a c (sight_of c i.sight).controller i) p) (plain_tick q start calls i)
    go (Ok x) e =
        rw (sym (replied start calls c m (sight i.sight) _ _ meets) ∙ ap sight_reply e, ← ticks)
        (plan_agrees start _ _ (sight i.sight ∷ calls) (sight_of c i.sight).controller i (after start calls c m (sight i.sight) _ _ meets))
    go (Err r) e = rw (sym (replied start calls c m (sight i.sight) _ _ meets) ∙ ap sight_reply e) (refused_agrees r p q beside)

-- the first block
first_agrees : (b : TickBlock) → IsStart (record { tick_length = b.tick_length }) → Agrees (driven_with (ticked_by (driver_of Empty b) b) Empty) (plain_take none b)
first_agrees b valid = go (b.number == 0)
  where
    start : Start
    start = record { tick_length = b.tick_length }

    begun : Behind start [] (started start)
    begun = record { valid = valid; entries = []; are = unfold calls_of in refl; made = unfold Made in refl }

    go : (zero : Bool) → Agrees (driven_with (ticked_by (if zero then Ok (started (record { tick_length = b.tick_length })) else Err Why.Order) b) Empty) (if zero then plain_tick none (record { tick_length = b.tick_length }) [] b.inputs else refused_at 10 none)
    go true = tick_agrees Empty none tt start [] (started start) b.inputs begun
    go false = refused_agrees Why.Order Empty none tt

-- a later block
later_agrees : (start : Start) (calls : List Call) (c : BodyController) (b : TickBlock) → Behind start calls c
    → Agrees (driven_with (ticked_by (driver_of (Driving c) b) b) (Driving c)) (plain_take (at start calls) b)
later_agrees start calls c b m =
    rw (
      ap (λ (s : Start). b.tick_length == s.tick_length) (follows_plain_drive start m.entries c m.valid m.made).chosen,
      ap (λ (n : ℕ). b.number == n) (ticks_beside (Driving c) (at start calls) m),
    ) (go (b.tick_length == start.tick_length) (b.number == plain_ticks (at start calls)))
  where
    go : (same next : Bool)
        → Agrees (driven_with (ticked_by (result_and (if same then (if next then Ok (tt {0}) else Err Why.Order) else Err Why.OtherTickLength) (Ok c)) b) (Driving c))
        (if same then (if next then plain_tick (at start calls) start calls b.inputs else refused_at 10 (at start calls)) else refused_at 9 (at start calls))
    go true true = tick_agrees (Driving c) (at start calls) m start calls c b.inputs m
    go true false = refused_agrees Why.Order (Driving c) (at start calls) m
    go false next = refused_agrees Why.OtherTickLength (Driving c) (at start calls) m

block_agrees : (bytes : List ℕ) (p : Pass) (q : PlainPass) → Beside p q → Agrees (driven p bytes) (plain_read (Blocks.block_read bytes) q)
block_agrees bytes p q m = go (Blocks.block_read bytes) refl p q m
  where
    go : (a : Result TickBlock Refusal) → Blocks.block_read bytes ≡ a → (p : Pass) (q : PlainPass) → Beside p q → Agrees (driven_with (taken_with a p) p) (plain_read a q)
    go (Err r) e p q m = refused_agrees r p q m
    go (Ok b) e Empty none m = first_agrees b (valid_read bytes b e)
    go (Ok b) e Empty (at start calls) m = absurd m
    go (Ok b) e (Driving c) none m = absurd m
    go (Ok b) e (Driving c) (at start calls) m = later_agrees start calls c b m

-- ---- any list of blocks

-- the lines so far, and where the pass is
pub record Passing (blocks : List (List ℕ)) (lines : List Line) (q : Pass) : Type 0 where
  pub marks : marks_of lines ≡ plain_marks blocks
  pub pass : Beside q (plain_pass blocks)

passing : (blocks : List (List ℕ)) (lines : List Line) (q : Pass) → Passed blocks lines q → Passing blocks lines q
unfolding Passed marks_of plain_marks plain_pass
passing [] [] q m = rw m (record { marks = refl; pass = tt })
passing [] (line ∷ lines) q m = absurd m
passing (block ∷ blocks) [] q m = absurd m
passing (block ∷ blocks) (line ∷ lines) q m = go (passing blocks lines m.0 m.1)
  where
    go : Passing blocks lines m.0 → Passing (block ∷ blocks) (line ∷ lines) q
    go t =
        let a = block_agrees block m.0 (plain_pass blocks) t.pass in
        rw (m.2, m.3) (record { marks = rw (a.mark, t.marks) refl; pass = a.pass })

stands_on : (p : Pass) (q : PlainPass) → Beside p q → StandsOn p q
stands_on Empty none m = tt
stands_on Empty (at start calls) m = absurd m
stands_on (Driving c) none m = absurd m
stands_on (Driving c) (at start calls) m = (m.entries, m.valid, m.are, m.made, follows_plain_drive start m.entries c m.valid m.made)

pub every_pass : EveryPass
every_pass blocks lines q m =
    let t = passing blocks lines q m in
    record {
      marks = t.marks;
      ticks = ticks_beside q (plain_pass blocks) t.pass;
      counts = counts_beside q (plain_pass blocks) t.pass;
      stands = stands_on q (plain_pass blocks) t.pass;
    }
