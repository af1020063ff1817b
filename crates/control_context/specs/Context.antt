-- A context, new and reset, and what a planner failure leaves of it (docs/RULES.md, 'A new controller', 'Recovery' and 'Steer').
use Rattle.std.specs.Prelude.{true}
use Rattle.linear.specs.declared.Vector6f.{Vector6f}
use Rattle.tick.specs.declared.start.Start.{Start}
use Rattle.controllers.specs.PidAxes.{new_memory}
use Rattle.vision.specs.Vision.{new_vision}
use Rattle.control_context.specs.Memory.{empty_memory, trajectory_dropped}
use Rattle.control_context.specs.declared.recovery.TrackingDivergenceState.TheVariants.{Normal}
use Rattle.control_context.specs.declared.context.ControlContext.{ControlContext}

-- around an estimate: the wheels are disabled, and the previous mode is off
abbrev pub new_context : Start → Vector6f → ControlContext
new_context start estimate = record {
  start = start;
  vision = new_vision;
  memory = empty_memory;
  divergence = Normal;
  pose_pid = new_memory;
  state_estimate = estimate;
  prev_mode = 0;
  wheels_disabled = true;
}

-- recovery's reset: the estimate, the previous mode and the wheels' disabled mark stay
abbrev pub context_reset : ControlContext → ControlContext
context_reset c = record c { vision = new_vision; memory = empty_memory; divergence = Normal; pose_pid = new_memory }

-- a planner failure drops the trajectory, and leaves the previous command
abbrev pub planner_failed : ControlContext → ControlContext
planner_failed c = record c { memory = trajectory_dropped c.memory }
