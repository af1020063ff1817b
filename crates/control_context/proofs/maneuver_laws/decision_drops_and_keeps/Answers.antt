-- The laws of the decision; those that do not turn on vision or on the previous mode hold at any.
use Rattle.std.proofs.Common.{true, false}
use Rattle.control_context.proofs.DecisionLaws.{hold_forgets, changed_mode, no_vision_keeps, seed_held}
use Rattle.control_context.proofs.maneuver_laws.decision_drops_and_keeps.Goals as goal

pub returns : goal.returns
returns c = record {
  hold = hold_forgets;
  changed_mode = λ mode halt recovering cmd m prev estimate. changed_mode mode halt recovering true cmd m prev estimate;
  no_vision = λ mode halt recovering cmd m estimate. no_vision_keeps mode halt recovering false cmd m mode estimate;
  seed = seed_held;
}
