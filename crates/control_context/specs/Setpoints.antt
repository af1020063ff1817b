-- The setpoints: `calc_tracking_setpoints` in the modes that the constants choose, feedback alone for the acceleration and
-- feedforward alone for the twist (docs/RULES.md, 'Setpoints').
use Rattle.std.specs.Prelude.{List, [], ◌∷◌, None, Some, Float}
use Rattle.std.specs.Float.{binary32}
use Rattle.std.specs.Float.Ieee.{add, sub}
use Rattle.ieee754.specs.Remainder.{remainder_by, tau}
use Rattle.linear.specs.declared.Vector3f.{Vector3f}
use Rattle.linear.specs.declared.Vector6f.{Vector6f}
use Rattle.linear.specs.Vector.{zeros3, sum_of, difference_of, scaled, entries3, vector3_of}
use Rattle.params.specs.declared.TheConstants.{LINEAR_POSE_PID_GAINS, ANGULAR_POSE_PID_GAINS, POSE_PID_ANTI_JITTER_THRESH, POSE_ACCEL_FEEDBACK_GAIN, POSE_VEL_FEEDFORWARD_GAIN}
use Rattle.controllers.specs.declared.pid.PidSettings.{PidSettings}
use Rattle.controllers.specs.declared.pid.PidMemory.{PidMemory}
use Rattle.controllers.specs.PidAxes.{calculated_with_derivative}
use Rattle.control_context.specs.declared.tracking.ManeuverSetpoints.{ManeuverSetpoints}

-- what hold and no vision give
abbrev pub zero_setpoints : ManeuverSetpoints
zero_setpoints = record { body_twist = zeros3; body_accel = zeros3 }

-- `pose_pid_controller`: the linear gains for x and y, the angular ones for the heading, a threshold for each axis, and no limits
abbrev pub pose_pid : List PidSettings
pose_pid =
    record { gain = LINEAR_POSE_PID_GAINS; anti_jitter_thresh = Some POSE_PID_ANTI_JITTER_THRESH.x; output_limits = None }
    ∷ record { gain = LINEAR_POSE_PID_GAINS; anti_jitter_thresh = Some POSE_PID_ANTI_JITTER_THRESH.y; output_limits = None }
    ∷ record { gain = ANGULAR_POSE_PID_GAINS; anti_jitter_thresh = Some POSE_PID_ANTI_JITTER_THRESH.z; output_limits = None }
    ∷ []

-- the sample's place, its heading the one within half a turn of the estimate's
abbrev pub wrapped : Vector3f → Vector3f → Vector3f
wrapped pos pose = record pos { z = add binary32 pose.z (remainder_by binary32 (sub binary32 pos.z pose.z) tau) }

-- 1.0·velocity + 0.0, so that -0.0 becomes 0.0
abbrev pub twist_setpoint : Vector3f → Vector3f
twist_setpoint vel = sum_of (scaled vel POSE_VEL_FEEDFORWARD_GAIN) zeros3

-- 0.0 + 1.0·feedback, so that -0.0 becomes 0.0
abbrev pub accel_setpoint : Vector3f → Vector3f
accel_setpoint feedback = sum_of zeros3 (scaled feedback POSE_ACCEL_FEEDBACK_GAIN)

-- setpoints, and what the PID remembers after them
pub record TrackingAnswer : Type 0 where
  pub setpoints : ManeuverSetpoints
  pub pid : PidMemory 3

-- from the estimate and a sample's state, over dt: the PID goes to the wrapped place, with the velocities' difference as derivative
unfoldable pub tracking_setpoints : PidMemory 3 → Vector6f → Vector6f → Float → TrackingAnswer
tracking_setpoints pid estimate sample dt =
    let a = calculated_with_derivative pose_pid pid (entries3 (wrapped sample.pose estimate.pose)) (entries3 estimate.pose) (entries3 (difference_of sample.twist estimate.twist)) dt in
    record {
      setpoints = record { body_twist = twist_setpoint sample.twist; body_accel = accel_setpoint (vector3_of a.output) };
      pid = a.memory;
    }
