-- The limits of the tracking errors and of a wheel at rest (docs/RULES.md, 'Recovery').
use Rattle.std.specs.Prelude.{Bool, ◌&&◌, ◌||◌, Float}
use Rattle.std.specs.Float.Ieee.{lt}
use Rattle.ieee754.specs.Magnitude.{magnitude}
use Rattle.linear.specs.declared.Vector4f.{Vector4f}
use Rattle.params.specs.declared.TrackingErrors.{TrackingErrors}
use Rattle.params.specs.declared.TheConstants.{TRACKING_DIVERGENCE_RECOVERY_REST_WHEEL_VEL}

-- an error exceeds its limit; NaN exceeds nothing
abbrev pub any_exceeds : TrackingErrors → TrackingErrors → Bool
any_exceeds e l =
    lt l.pos_linear e.pos_linear || lt l.pos_angular e.pos_angular
    || lt l.vel_linear e.vel_linear || lt l.vel_angular e.vel_angular

-- |wheel| < 50.0; NaN is not
abbrev pub wheel_at_rest : Float → Bool
wheel_at_rest w = lt (magnitude w) TRACKING_DIVERGENCE_RECOVERY_REST_WHEEL_VEL

-- every wheel is
abbrev pub at_rest : Vector4f → Bool
at_rest w = wheel_at_rest w.x && wheel_at_rest w.y && wheel_at_rest w.z && wheel_at_rest w.w
