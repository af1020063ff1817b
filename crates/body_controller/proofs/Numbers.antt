-- Plan's refusals at its turn, in the order of trial: the mode, then the estimator.
use Rattle.std.proofs.Common.{◌≡◌, ℕ, suc, Bool, true, false, cond, not, eqb, List, sym, refl, arith, le-ltb, eqb-true, Float, Result, Ok, Err}
use borrow.Author.Tests.{eqb-false}
use Rattle.tick.specs.declared.refusal.Refusal.{Refusal}
use Rattle.tick.specs.declared.refusal.Refusal.TheVariants as Why
use Rattle.tick.specs.Refusal.{refusal_number, number_of}
use Rattle.tick.specs.declared.command.ManeuverCommand.{ManeuverCommand}
use Rattle.tick.specs.Mode.{is_mode}
use Rattle.tick.specs.Command.{command_from}
use Rattle.tick.specs.declared.inputs.PlanInput.{PlanInput}
use Rattle.body_controller.specs.declared.BodyController.{BodyController}
use Rattle.body_controller.specs.Controller.{refused}
use Rattle.body_controller.specs.Turn.{is_plan}
use Rattle.body_controller.specs.Plan.{plan_with, plan_of, plan_refusal}

-- a mode number is refused exactly where it is no mode
command_number : (mode : ℕ) (w : List Float) → number_of (command_from mode w) ≡ cond (is_mode mode) 0 4
unfolding command_from
command_number mode w = go (eqb mode 0) (eqb mode 1) (eqb mode 2) (eqb mode 3) refl refl refl refl
  where
    go : (a b c d : Bool) → eqb mode 0 ≡ a → eqb mode 1 ≡ b → eqb mode 2 ≡ c → eqb mode 3 ≡ d → number_of (command_from mode w) ≡ cond (is_mode mode) 0 4
    go true b c d e f g h = rw (eqb-true mode 0 e)
    go false true c d e f g h = rw (eqb-true mode 1 f)
    go false false true d e f g h = rw (eqb-true mode 2 g)
    go false false false true e f g h = rw (eqb-true mode 3 h)
    go false false false false e f g h =
        rw (e, f, g, h, le-ltb mode 4 (omega (arith, eqb-false mode 0 e, eqb-false mode 1 f, eqb-false mode 2 g, eqb-false mode 3 h)))

clash : {A : Type 0} (n : ℕ) → ◌≡◌ {A = ℕ} (suc n) 0 → A
clash n e = absurd (omega (arith, e))

-- no refusal has the number 0
above_zero : {A : Type 0} (r : Refusal) → refusal_number r ≡ 0 → A
above_zero Why.TickLength e = clash 0 e
above_zero Why.OutOfTurn e = clash 1 e
above_zero Why.TickLimit e = clash 2 e
above_zero Why.Mode e = clash 3 e
above_zero Why.Length e = clash 4 e
above_zero Why.Check e = clash 5 e
above_zero Why.Version e = clash 6 e
above_zero Why.Spare e = clash 7 e
above_zero Why.OtherTickLength e = clash 8 e
above_zero Why.Order e = clash 9 e
above_zero Why.EstimatorFailed e = clash 10 e
above_zero Why.PlannerFailed e = clash 11 e

-- 4, then 11
command_numbered : (c : BodyController) (i : PlanInput) (a : Result ManeuverCommand Refusal) (known : Bool)
    → number_of a ≡ cond known 0 4
    → number_of (plan_with a c i).answer ≡ cond (not known) 4 (cond i.estimator_failed 11 0)
command_numbered c i (Err r) true e = above_zero r e
command_numbered c i (Err r) false e = e
command_numbered c i (Ok cmd) false e = clash 3 (sym e)
command_numbered c i (Ok cmd) true e = go i.estimator_failed refl
  where
    go : (b : Bool) → i.estimator_failed ≡ b → number_of (plan_with (Ok cmd) c i).answer ≡ cond i.estimator_failed 11 0
    go true e = rw e
    go false e = rw e

-- what plan gives at any turn
pub plan_numbered : (c : BodyController) (i : PlanInput) → number_of (plan_of c i).answer ≡ plan_refusal c i
unfolding plan_of
plan_numbered c i = go (is_plan c.turn)
  where
    go : (b : Bool)
        → number_of (cond b (plan_with (command_from i.mode i.words) c i) (refused Why.OutOfTurn c)).answer
        ≡ cond (not b) 2 (cond (not (is_mode i.mode)) 4 (cond i.estimator_failed 11 0))
    go true = command_numbered c i (command_from i.mode i.words) (is_mode i.mode) (command_number i.mode i.words)
    go false = refl
