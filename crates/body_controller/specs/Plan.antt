-- Plan, the tick's second call (docs/RULES.md, 'Plan').
use Rattle.std.specs.Prelude.{ℕ, if◌then◌else◌, not, Result, Ok, Err}
use Rattle.tick.specs.declared.refusal.Refusal.{Refusal}
use Rattle.tick.specs.declared.refusal.Refusal.TheVariants as Why
use Rattle.tick.specs.declared.command.ManeuverCommand.{ManeuverCommand}
use Rattle.tick.specs.declared.inputs.PlanInput.{PlanInput}
use Rattle.tick.specs.Mode.{is_mode}
use Rattle.tick.specs.Command.{command_from}
use Rattle.control_context.specs.declared.maneuvers.PlanAnswer.{PlanAnswer}
use Rattle.control_context.specs.Decision.{decided_on}
use Rattle.body_controller.specs.declared.BodyController.{BodyController}
use Rattle.body_controller.specs.declared.Called.{Called}
use Rattle.body_controller.specs.declared.Turn.TheVariants as Turns
use Rattle.body_controller.specs.Controller.{refused}
use Rattle.body_controller.specs.Turn.{is_plan}

-- an accepted call: its answer and the command are left to steer
abbrev pub planned : BodyController → PlanInput → ManeuverCommand → Called PlanAnswer
planned c i cmd =
    let d = decided_on c.context i.mode i.halt cmd i.state_estimate in
    record {
      answer = Ok d.answer;
      controller = record c { context = d.context; turn = Turns.Steer (record { answer = d.answer; cmd = cmd }) };
    }

-- at plan's turn: an unknown mode changes nothing; an estimator failure closes the tick before plan sets anything
abbrev pub plan_with : Result ManeuverCommand Refusal → BodyController → PlanInput → Called PlanAnswer
plan_with (Err r) c i = refused r c
plan_with (Ok cmd) c i = if i.estimator_failed then refused Why.EstimatorFailed (record c { turn = Turns.Sight }) else planned c i cmd

unfoldable pub plan_of : BodyController → PlanInput → Called PlanAnswer
plan_of c i = if is_plan c.turn then plan_with (command_from i.mode i.words) c i else refused Why.OutOfTurn c

-- the refusal's number, 0 where the call is accepted
abbrev pub plan_refusal : BodyController → PlanInput → ℕ
plan_refusal c i =
    if not (is_plan c.turn) then 2
    else if not (is_mode i.mode) then 4
    else if i.estimator_failed then 11
    else 0
