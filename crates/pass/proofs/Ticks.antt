-- A block that is not refused is one tick more, and a pass has no more of them than the limit.
use Prim.Native.Nat.{ℕ, zero, suc, ◌+◌, ◌-◌, ◌≤◌, ◌<◌}
use mathlib.Core.Path.{◌≡◌, refl, sym, ap, ◌∙◌}
use mathlib.Core.Bool.{Bool, true, false, not}
use mathlib.Core.List.{List, [], ◌∷◌, ◌++◌}
use native.Mathlib.Nat.{not-suc-le-zero}
use native.Mathlib.Omega.{arith}
use lib.ListN.{length}
use lib.Dec.{ltb}
use borrow.Author.Tests.{ltb-true}
use Rattle.std.specs.Prelude.{if◌then◌else◌, ◌==◌, Option, Some, None, Result, Ok, Err}
use Rattle.std.specs.Option.{option_map_or}
use Rattle.std.specs.Result.{result_and}
use Rattle.tick.specs.declared.command.ManeuverCommand.{ManeuverCommand}
use Rattle.tick.specs.declared.inputs.TickInput.{TickInput}
use Rattle.tick.specs.declared.inputs.SightInput.{SightInput}
use Rattle.tick.specs.declared.inputs.PlanInput.{PlanInput}
use Rattle.tick.specs.declared.inputs.SteerInput.{SteerInput}
use Rattle.tick.specs.declared.inputs.FinishInput.{FinishInput}
use Rattle.tick.specs.declared.refusal.Refusal.{Refusal}
use Rattle.tick.specs.declared.refusal.Refusal.TheVariants as Why
use Rattle.tick.specs.declared.tally.Totals.{Totals}
use Rattle.tick.specs.Command.{command_from}
use Rattle.tick.specs.Tally.{tick_limit}
use Rattle.tick_block.specs.declared.TickBlock.{TickBlock}
use Rattle.tick_block.specs.Block.{block_read}
use Rattle.tick_block.specs.Order.{order_tested}
use Rattle.control_context.specs.declared.context.Planned.{Planned}
use Rattle.body_controller.specs.declared.BodyController.{BodyController}
use Rattle.body_controller.specs.declared.Called.{Called}
use Rattle.body_controller.specs.declared.sight.Sighted.{Sighted}
use Rattle.body_controller.specs.declared.steer.Steered.{Steered}
use Rattle.body_controller.specs.Controller.{started, refused}
use Rattle.body_controller.specs.InTurn.{from_plan}
use Rattle.body_controller.specs.Turn.{is_sight, is_plan, planned_at, steered_at}
use Rattle.body_controller.specs.Sight.{sighted, sight_of}
use Rattle.body_controller.specs.Plan.{plan_with, plan_of}
use Rattle.body_controller.specs.Steer as Steer
use Rattle.body_controller.specs.Finish.{finished, finish_of}
use Rattle.pass.specs.declared.pass.Pass.{Pass}
use Rattle.pass.specs.declared.pass.Pass.TheVariants.{Empty, Driving}
use Rattle.pass.specs.Tick.{Ticked, ended_by, ticked_with, ticked}
use Rattle.pass.specs.Pass.{next_number, ticked_by, taken_with, driven_with, driven}
use Rattle.pass.proofs.InTurn.{from_plan_ends}
use Rattle.pass.specs.Batch.{is_refused, first_block, behind_first, Batched, one_block, followed_by, batch_of, whole_of}

-- ---- the calls behind sight count nothing

kept_if : {A : Type 0} (b : Bool) (x y : Called A) (t : Totals) → x.controller.tally ≡ t → y.controller.tally ≡ t → (if b then x else y).controller.tally ≡ t
kept_if true x y t e f = e
kept_if false x y t e f = f

plan_keeps : (c : BodyController) (i : PlanInput) → (plan_of c i).controller.tally ≡ c.tally
unfolding plan_of
plan_keeps c i = kept_if (is_plan c.turn) (plan_with (command_from i.mode i.words) c i) (refused Why.OutOfTurn c) c.tally (go (command_from i.mode i.words)) refl
  where
    go : (a : Result ManeuverCommand Refusal) → (plan_with a c i).controller.tally ≡ c.tally
    go (Ok cmd) = kept_if i.estimator_failed _ _ c.tally refl refl
    go (Err r) = refl

steer_keeps : (c : BodyController) (i : SteerInput) → (Steer.steer_of c i).controller.tally ≡ c.tally
unfolding Steer.steer_of
steer_keeps c i = go (planned_at c.turn)
  where
    go : (o : Option Planned) → (option_map_or (λ p. if Steer.fails_at p i then Steer.planner_failed c else Steer.steered c p i) o (refused Why.OutOfTurn c)).controller.tally ≡ c.tally
    go (Some p) = kept_if (Steer.fails_at p i) (Steer.planner_failed c) (Steer.steered c p i) c.tally refl refl
    go None = refl

finish_keeps : (c : BodyController) (i : FinishInput) → (finish_of c i).controller.tally ≡ c.tally
unfolding finish_of
finish_keeps c i = go (steered_at c.turn)
  where
    go : (o : Option Steered) → (option_map_or (λ s. finished c s i) o (refused Why.OutOfTurn c)).controller.tally ≡ c.tally
    go (Some s) = refl
    go None = refl

calls_keep : (c : BodyController) (i : TickInput) → (from_plan c i).controller.tally ≡ c.tally
calls_keep c i =
    from_plan_ends Same Same i (record {
      closes = λ d e. e;
      plans = λ d e. plan_keeps d i.plan ∙ e;
      steers = λ d e. steer_keeps d i.steer ∙ e;
      finishes = λ d e. finish_keeps d i.finish ∙ e;
    }) c refl
  where
    Same : BodyController → Type 0
    Same d = d.tally ≡ c.tally

-- ---- sight counts one, below the limit

abbrev Counts : ℕ → ℕ → Type 0
Counts n m = (n < tick_limit) × (m ≡ n + 1)

sight_counts : (c : BodyController) (i : SightInput) (s : Sighted) → (sight_of c i).answer ≡ Ok s → Counts c.tally.ticks (sight_of c i).controller.tally.ticks
unfolding sight_of
sight_counts c i s = go (not (is_sight c.turn)) (ltb c.tally.ticks tick_limit) refl
  where
    go : (turned few : Bool) → ltb c.tally.ticks tick_limit ≡ few
        → (let a : Called Sighted = if turned then refused Why.OutOfTurn c else if not few then refused Why.TickLimit c else sighted c i in
        a.answer ≡ Ok s → Counts c.tally.ticks a.controller.tally.ticks)
    go true few e h = cc
    go false true e h = (ltb-true c.tally.ticks tick_limit e, refl)
    go false false e h = cc

tick_counts : (c : BodyController) (i : TickInput) (t : Ticked) → ticked c i ≡ Ok t → Counts c.tally.ticks t.controller.tally.ticks
tick_counts c i t = go (sight_of c i.sight).answer refl
  where
    d : BodyController
    d = (sight_of c i.sight).controller

    go : (a : Result Sighted Refusal) → (sight_of c i.sight).answer ≡ a → ticked_with a c d i ≡ Ok t → Counts c.tally.ticks t.controller.tally.ticks
    go (Ok s) e h =
        let same : ended_by (from_plan d i) c.tally.ticks s.action ≡ t = cc in
        let n = sight_counts c i.sight s e in
        (n.0, rw (← same) (ap (λ (x : Totals). x.ticks) (calls_keep d i) ∙ n.1))
    go (Err r) e h = cc

-- ---- blocks

block_counts : (p : Pass) (block : List ℕ) → is_refused (driven p block).line ≡ false → Counts (next_number p) (next_number (driven p block).pass)
block_counts p block = accepted (taken_with (block_read block) p) refl
  where
    begins : (b : TickBlock) (t : Ticked) (zero : Bool)
        → ticked_by (if zero then Ok (started (record { tick_length = b.tick_length })) else Err Why.Order) b ≡ Ok t → Counts 0 t.controller.tally.ticks
    begins b t true h = tick_counts (started (record { tick_length = b.tick_length })) b.inputs t h
    begins b t false h = cc

    goes_on : (c : BodyController) (b : TickBlock) (t : Ticked) (o : Result (Unit {0}) Refusal)
        → ticked_by (result_and o (Ok c)) b ≡ Ok t → Counts c.tally.ticks t.controller.tally.ticks
    goes_on c b t (Ok u) h = tick_counts c b.inputs t h
    goes_on c b t (Err r) h = cc

    taken : (a : Result TickBlock Refusal) (q : Pass) (t : Ticked) → taken_with a q ≡ Ok t → Counts (next_number q) t.controller.tally.ticks
    taken (Err r) q t h = cc
    taken (Ok b) Empty t h = begins b t (b.number == 0) h
    taken (Ok b) (Driving c) t h = goes_on c b t (order_tested b.tick_length c.context.start.tick_length b.number c.tally.ticks) h

    accepted : (a : Result Ticked Refusal) → taken_with (block_read block) p ≡ a → is_refused (driven_with a p).line ≡ false → Counts (next_number p) (next_number (driven_with a p).pass)
    accepted (Ok t) e f = taken (block_read block) p t e
    accepted (Err r) e f = cc

-- what follows a block that was not refused
behind : (t rest : Batched) → (followed_by t rest).over ≡ false → (t.over ≡ false) × (rest.over ≡ false) × ((followed_by t rest).pass ≡ rest.pass)
behind t rest = go t.over refl
  where
    go : (o : Bool) → t.over ≡ o
        → (let s : Batched = if o then t else record rest { blocks = t.blocks ++ rest.blocks; lines = t.lines ++ rest.lines } in
        s.over ≡ false → (t.over ≡ false) × (rest.over ≡ false) × (s.pass ≡ rest.pass))
    go true e f = let z : true ≡ false = sym e ∙ f in cc
    go false e f = (e, f, refl)

after_first : (p : Pass) (block : List ℕ) (rest : Batched) → (rest.over ≡ false → next_number (driven p block).pass ≤ next_number rest.pass)
    → (followed_by (one_block p block) rest).over ≡ false
    → (next_number p < tick_limit) × (next_number p < next_number (followed_by (one_block p block) rest).pass)
after_first p block rest k f =
    let m = behind (one_block p block) rest f in
    let one = block_counts p block m.0 in
    (one.0, rw m.2 (omega (arith, one.1, k m.1)))

grows : (n : ℕ) (p : Pass) (bytes : List ℕ) → (batch_of n p bytes).over ≡ false → next_number p ≤ next_number (batch_of n p bytes).pass
unfolding batch_of
grows zero p bytes f = omega arith
grows (suc n) p [] f = omega arith
grows (suc n) p (b ∷ bytes) f =
    let first = first_block (b ∷ bytes) in
    omega (arith, (after_first p first _ (grows n (driven p first).pass (behind_first (b ∷ bytes))) f).1)

-- bytes that are driven and not refused leave fewer ticks to the limit
pub left_less : (p : Pass) (bytes : List ℕ) → 0 < length bytes → (whole_of p bytes).over ≡ false
    → tick_limit - next_number (whole_of p bytes).pass < tick_limit - next_number p
unfolding batch_of
left_less p [] h f = absurd (not-suc-le-zero h)
left_less p (b ∷ bytes) h f =
    let first = first_block (b ∷ bytes) in
    let more = after_first p first _ (grows (length bytes) (driven p first).pass (behind_first (b ∷ bytes))) f in
    omega (arith, more.0, more.1)
