-- Sight's work on a context: wheels, gate and drops (docs/RULES.md, 'Sight').
use Rattle.std.specs.Prelude.{false, if◌then◌else◌, Option}
use Rattle.linear.specs.declared.Vector3f.{Vector3f}
use Rattle.linear.specs.declared.Vector6f.{Vector6f}
use Rattle.tick.specs.declared.action.GateAction.{GateAction}
use Rattle.tick.specs.Outcome.{overwrites}
use Rattle.controllers.specs.PidAxes.{new_memory}
use Rattle.vision.specs.declared.Vision.{Vision}
use Rattle.vision.specs.Vision.{vision_after}
use Rattle.control_context.specs.Memory.{empty_memory}
use Rattle.control_context.specs.declared.context.ControlContext.{ControlContext}

-- the gate's answer, and the context that it leaves
pub record Seen : Type 0 where
  pub action : GateAction
  pub context : ControlContext

-- the wheels are enabled; where the filter's state is overwritten, trajectory, previous command and the PID's memory are dropped
abbrev pub after_sight : ControlContext → GateAction → Vision → ControlContext
after_sight c a vision = record c {
  vision = vision;
  memory = if overwrites a then empty_memory else c.memory;
  pose_pid = if overwrites a then new_memory else c.pose_pid;
  wheels_disabled = false;
}

-- from the sighting, if there is one, and the predicted state
unfoldable pub seen : ControlContext → Option Vector3f → Vector6f → Seen
seen c sighting predicted =
    let v = vision_after c.vision sighting predicted c.start in
    record { action = v.action; context = after_sight c v.action v.vision }
