-- The clamps of twist and acceleration (docs/RULES.md, 'Stop and limits').
use Rattle.std.specs.Prelude.{Bool, ◌||◌, Float}
use Rattle.std.specs.Float.Ieee.{ne}
use Rattle.ieee754.specs.Clamp.{clamp_within}
use Rattle.linear.specs.declared.Vector3f.{Vector3f}
use Rattle.params.specs.declared.TheConstants.{BODY_ACCEL_CLAMP_LINEAR, BODY_ACCEL_CLAMP_ANGULAR, BODY_VEL_CLAMP_LINEAR, BODY_VEL_CLAMP_ANGULAR}
use Rattle.control_context.specs.declared.limits.Clamped.{Clamped}

-- the entries within their bounds, as `f32::clamp` has them, which keeps NaN
abbrev pub within : Float → Float → Vector3f → Vector3f
within linear angular v = record { x = clamp_within v.x linear; y = clamp_within v.y linear; z = clamp_within v.z angular }

-- an entry is not equal, as a float, to the other's; NaN never is
abbrev pub differs : Vector3f → Vector3f → Bool
differs u v = ne u.x v.x || ne u.y v.y || ne u.z v.z

-- the clamp and its mark
unfoldable pub clamped_to : Float → Float → Vector3f → Clamped
clamped_to linear angular v = record { value = within linear angular v; clamped = differs (within linear angular v) v }

abbrev pub twist_clamped : Vector3f → Clamped
twist_clamped v = clamped_to BODY_VEL_CLAMP_LINEAR BODY_VEL_CLAMP_ANGULAR v

abbrev pub accel_clamped : Vector3f → Clamped
accel_clamped v = clamped_to BODY_ACCEL_CLAMP_LINEAR BODY_ACCEL_CLAMP_ANGULAR v
