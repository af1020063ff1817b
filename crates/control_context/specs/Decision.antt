-- Plan's work on a context: estimate, decision and the wheels' mark (docs/RULES.md, 'Plan').
use Rattle.std.specs.Prelude.{ℕ, Bool, ◌||◌}
use Rattle.linear.specs.declared.Vector6f.{Vector6f}
use Rattle.vision.specs.Vision.{active}
use Rattle.tick.specs.declared.command.ManeuverCommand.{ManeuverCommand}
use Rattle.control_context.specs.Plan.{Decision, decided, number_decided}
use Rattle.control_context.specs.Answer.{disables_wheels}
use Rattle.control_context.specs.Divergence.{is_recovering}
use Rattle.control_context.specs.declared.maneuvers.PlanAnswer.{PlanAnswer}
use Rattle.control_context.specs.declared.context.ControlContext.{ControlContext}

-- plan's answer, and the context that it leaves
pub record Decided : Type 0 where
  pub answer : PlanAnswer
  pub context : ControlContext

-- the one decision, on this command
abbrev pub decision_on : ControlContext → ℕ → Bool → ManeuverCommand → Vector6f → Decision
decision_on c mode halt cmd estimate =
    decided mode halt (is_recovering c.divergence) (active c.vision.time_since_vision_update_s) cmd c.memory c.prev_mode estimate

-- the number of its answer
abbrev pub number_on : ControlContext → ℕ → Bool → ManeuverCommand → ℕ
number_on c mode halt cmd =
    number_decided mode halt (is_recovering c.divergence) (active c.vision.time_since_vision_update_s) cmd c.memory c.prev_mode

-- the estimate is set, and the decision's memory and previous mode; an answer may disable the wheels
unfoldable pub decided_on : ControlContext → ℕ → Bool → ManeuverCommand → Vector6f → Decided
decided_on c mode halt cmd estimate =
    let d = decision_on c mode halt cmd estimate in
    record {
      answer = d.answer;
      context = record c {
        memory = d.memory;
        state_estimate = estimate;
        prev_mode = d.prev_mode;
        wheels_disabled = c.wheels_disabled || disables_wheels d.answer;
      };
    }
