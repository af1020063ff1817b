-- The clamps: every entry is within its bound or NaN, and without the mark it is equal to the one given. One law over the bounds serves twist and acceleration.
use mathlib.Core.Path.{◌≡◌, refl}
use mathlib.Core.Bool.{Bool, true, false, not, ◌&&◌, ◌||◌, true≢false}
use lib.Dec.{T}
use lib.Ieee.{Float, lt, le, eq, ne, neg, of_bits}
use Rattle.ieee754.proofs.ClampLaws.{clamp_within_within}
use Rattle.linear.specs.declared.Vector3f.{Vector3f}
use Rattle.params.specs.declared.TheConstants.{BODY_ACCEL_CLAMP_LINEAR, BODY_ACCEL_CLAMP_ANGULAR, BODY_VEL_CLAMP_LINEAR, BODY_VEL_CLAMP_ANGULAR}
use Rattle.control_context.specs.Clamped.{clamped_to, twist_clamped, accel_clamped}
use Rattle.control_context.specs.TrackingLaws.{BoundedEntries, SameEntries}

pub clamped_bounded : (linear angular : Float) (v : Vector3f) → T (le (neg linear) linear) → T (le (neg angular) angular) → BoundedEntries linear angular (clamped_to linear angular v).value
unfolding clamped_to
clamped_bounded linear angular v p q = (clamp_within_within v.x linear p, (clamp_within_within v.y linear p, clamp_within_within v.z angular q))

pub twist_bounded : (v : Vector3f) → BoundedEntries BODY_VEL_CLAMP_LINEAR BODY_VEL_CLAMP_ANGULAR (twist_clamped v).value
unfolding lt eq le neg of_bits
twist_bounded v = clamped_bounded BODY_VEL_CLAMP_LINEAR BODY_VEL_CLAMP_ANGULAR v tt tt

pub accel_bounded : (v : Vector3f) → BoundedEntries BODY_ACCEL_CLAMP_LINEAR BODY_ACCEL_CLAMP_ANGULAR (accel_clamped v).value
unfolding lt eq le neg of_bits
accel_bounded v = clamped_bounded BODY_ACCEL_CLAMP_LINEAR BODY_ACCEL_CLAMP_ANGULAR v tt tt

-- ---- the mark

-- vectors are not equal where an entry is not
pub some_differs : (p q r : Bool) → not (p && (q && r)) ≡ (not p || not q || not r)
some_differs true true true = refl
some_differs true true false = refl
some_differs true false r = refl
some_differs false q r = refl

-- none of the three is false
all_true : (p q r : Bool) → (not p || not q || not r) ≡ false → (p ≡ true) × ((q ≡ true) × (r ≡ true))
all_true true true true e = (refl, (refl, refl))
all_true true true false e = absurd (true≢false e)
all_true true false r e = absurd (true≢false e)
all_true false q r e = absurd (true≢false e)

pub unmarked_same : (linear angular : Float) (v : Vector3f) → (clamped_to linear angular v).clamped ≡ false → SameEntries (clamped_to linear angular v).value v
unfolding clamped_to ne
unmarked_same linear angular v e = all_true _ _ _ e
