-- The friction twist, local and gated (docs/RULES.md, 'Friction').
use Rattle.std.specs.Prelude.{Bool, if◌then◌else◌, ◌||◌, Float}
use Rattle.std.specs.Float.Ieee.{le}
use Rattle.ieee754.specs.Magnitude.{magnitude}
use Rattle.ieee754.specs.Hypot.{hypotenuse}
use Rattle.linear.specs.declared.Vector3f.{Vector3f}
use Rattle.linear.specs.declared.Vector6f.{Vector6f}
use Rattle.linear.specs.Vector.{zero_float}
use Rattle.linear.specs.declared.rotation.Rotation.{Rotation}
use Rattle.linear.specs.Rotation.{to_local}
use Rattle.control_context.specs.declared.tracking.ManeuverSetpoints.{ManeuverSetpoints}
use Rattle.params.specs.declared.TheConstants.{FRICTION_COMP_GATING}

-- gates 0.1 for the linear velocity and 0.5 for the linear acceleration, both inclusive
abbrev pub linear_comp_on : Vector3f → Vector3f → Bool
linear_comp_on vel accel = le FRICTION_COMP_GATING.linear_accel (hypotenuse accel.x accel.y) || le FRICTION_COMP_GATING.linear_vel (hypotenuse vel.x vel.y)

-- gates 0.5 for the angular velocity and 1.0 for the angular acceleration, both inclusive
abbrev pub angular_comp_on : Vector3f → Vector3f → Bool
angular_comp_on vel accel = le FRICTION_COMP_GATING.angular_accel (magnitude accel.z) || le FRICTION_COMP_GATING.angular_vel (magnitude vel.z)

-- an entry that is not on is 0.0
abbrev pub kept_if : Bool → Float → Float
kept_if on x = if on then x else zero_float

-- the twist in local axes, each entry kept where its gate is on; the gates judge the estimate's velocity and the acceleration, in local axes too
unfoldable pub friction_twist : Rotation → Vector6f → ManeuverSetpoints → Vector3f
friction_twist heading estimate setpoints =
    let vel = to_local heading estimate.twist in
    let target = to_local heading setpoints.body_twist in
    let command = to_local heading setpoints.body_accel in
    record {
      x = kept_if (linear_comp_on vel command) target.x;
      y = kept_if (linear_comp_on vel command) target.y;
      z = kept_if (angular_comp_on vel command) target.z;
    }
