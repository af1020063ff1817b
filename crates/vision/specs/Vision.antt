-- The vision clock, and the gate together with it (docs/RULES.md, 'The vision clock').
use Rattle.std.specs.Prelude.{Bool, if◌then◌else◌, Float, Option}
use Rattle.std.specs.Float.{binary32}
use Rattle.std.specs.Float.Ieee.{add, le}
use Rattle.linear.specs.declared.Vector3f.{Vector3f}
use Rattle.linear.specs.declared.Vector6f.{Vector6f}
use Rattle.linear.specs.Vector.{zero_float}
use Rattle.params.specs.declared.TheConstants.{VISION_ACTIVE_TIMEOUT_S, VISION_CLOCK_START_S}
use Rattle.vision.specs.declared.gate.VisionGateState.TheVariants as Gate
use Rattle.vision.specs.declared.Vision.{Vision}
use Rattle.tick.specs.declared.action.GateAction.{GateAction}
use Rattle.tick.specs.declared.start.Start.{Start}
use Rattle.tick.specs.Start.{dt_of}
use Rattle.tick.specs.Outcome.{takes}
use Rattle.vision.specs.Seeding.{fresh_seeding}
use Rattle.vision.specs.Gate.{judged}

-- the cameras are active: the clock is at most 0.5 s
abbrev pub active : Float → Bool
active clock = le clock VISION_ACTIVE_TIMEOUT_S

-- 0.0 after a taken sighting; else the clock runs by dt while it is at most 0.5 s, and then stands
abbrev pub clock_after : Float → Bool → Float → Float
clock_after clock taken dt = if taken then zero_float else if le clock VISION_ACTIVE_TIMEOUT_S then add binary32 clock dt else clock

-- new or reset: a fresh seeding, and the clock at 1.5 s
abbrev pub new_vision : Vision
new_vision = record { gate = Gate.Seeding fresh_seeding; time_since_vision_update_s = VISION_CLOCK_START_S }

-- what a tick answers, and the vision that it leaves
pub record VisionAnswer : Type 0 where
  pub action : GateAction
  pub vision : Vision

-- a tick: the gate judges, and the clock moves by whether it took the sighting
unfoldable pub vision_after : Vision → Option Vector3f → Vector6f → Start → VisionAnswer
vision_after v sighting predicted start =
    let j = judged v.gate sighting predicted start in
    record {
      action = j.action;
      vision = record { gate = j.gate; time_since_vision_update_s = clock_after v.time_since_vision_update_s (takes j.action) (dt_of start) };
    }
