-- The tracking error and recovery (docs/RULES.md, 'Recovery').
use Rattle.std.specs.Prelude.{Bool, true, false, if◌then◌else◌, Option, None, Some}
use Rattle.std.specs.Float.{binary32}
use Rattle.ieee754.specs.Magnitude.{magnitude}
use Rattle.ieee754.specs.Hypot.{hypotenuse}
use Rattle.ieee754.specs.Remainder.{remainder_by, tau}
use Rattle.linear.specs.declared.Vector4f.{Vector4f}
use Rattle.linear.specs.declared.Vector6f.{Vector6f}
use Rattle.linear.specs.Vector.{difference_of}
use Rattle.params.specs.declared.TrackingErrors.{TrackingErrors}
use Rattle.params.specs.declared.TheConstants.{TRACKING_ERROR_THRESHOLD}
use Rattle.control_context.specs.declared.recovery.TrackingDivergenceState.{TrackingDivergenceState}
use Rattle.control_context.specs.declared.recovery.TrackingDivergenceState.TheVariants.{Normal, Recovering}
use Rattle.control_context.specs.ErrorLimits.{any_exceeds, at_rest}

-- the state after a tick, and whether the rest is reset
pub record RecoveryAnswer : Type 0 where
  pub state : TrackingDivergenceState
  pub reset : Bool

-- the errors of a sample's state beside the estimate, in the order of their limits; the headings' is wrapped
abbrev pub tracking_errors : Vector6f → Vector6f → TrackingErrors
tracking_errors sample estimate =
    let pose = difference_of sample.pose estimate.pose in
    let twist = difference_of sample.twist estimate.twist in
    record {
      pos_linear = hypotenuse pose.x pose.y;
      pos_angular = magnitude (remainder_by binary32 pose.z tau);
      vel_linear = hypotenuse twist.x twist.y;
      vel_angular = magnitude twist.z;
    }

-- an error exceeds 1.0, 1.57, 5.0 or 10.0; with no sample held none does
abbrev pub tracking_error_exceeded : Option Vector6f → Vector6f → Bool
tracking_error_exceeded None estimate = false
tracking_error_exceeded (Some sample) estimate = any_exceeds (tracking_errors sample estimate) TRACKING_ERROR_THRESHOLD

-- Normal turns to recovering if an error exceeds; recovering with every wheel at rest resets within the tick
unfoldable pub recovery : TrackingDivergenceState → Option Vector6f → Vector6f → Vector4f → RecoveryAnswer
recovery Normal held estimate wheels =
    if tracking_error_exceeded held estimate then record { state = Recovering; reset = false } else record { state = Normal; reset = false }
recovery Recovering held estimate wheels =
    if at_rest wheels then record { state = Normal; reset = true } else record { state = Recovering; reset = false }
