-- The five calls, and what is compared of their answers (docs/RULES.md, 'The five calls' and 'The plain drive').
use Rattle.std.specs.Prelude.{ℕ, Bool, true, false}
use Rattle.tick.specs.declared.action.GateAction.{GateAction}
use Rattle.tick.specs.declared.inputs.SightInput.{SightInput}
use Rattle.tick.specs.declared.inputs.PlanInput.{PlanInput}
use Rattle.tick.specs.declared.inputs.SteerInput.{SteerInput}
use Rattle.tick.specs.declared.inputs.FinishInput.{FinishInput}
use Rattle.tick.specs.Outcome.{takes}
use Rattle.control_context.specs.declared.maneuvers.PlanAnswer.{PlanAnswer}

-- a call, with its inputs
pub data Call : Type 0 where
  sight : SightInput → Call
  plan : PlanInput → Call
  steer : SteerInput → Call
  finish : FinishInput → Call
  reset : Call

-- what is compared call by call: the outcome, plan's answer or the refusal; any other accepted call is `accepted`
pub data Reply : Type 0 where
  outcome : GateAction → Reply
  answer : PlanAnswer → Reply
  accepted : Reply
  refused : ℕ → Reply

-- an accepted sight call is a tick; only sight answers an outcome
abbrev pub is_tick : Reply → Bool
is_tick (outcome a) = true
is_tick (answer p) = false
is_tick accepted = false
is_tick (refused n) = false

-- a tick that took a sighting
abbrev pub took : Reply → Bool
took (outcome a) = takes a
took (answer p) = false
took accepted = false
took (refused n) = false

abbrev pub is_reset : Call → Bool
is_reset (sight i) = false
is_reset (plan i) = false
is_reset (steer i) = false
is_reset (finish i) = false
is_reset reset = true
