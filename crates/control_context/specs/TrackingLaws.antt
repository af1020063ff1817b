-- What holds of the clamps and of recovery: each statement is a clause of a function of src/tracking_laws.rt.
use Rattle.std.specs.Prelude.{◌≡◌, ◌⊎◌, true, false, T, Float, None}
use Rattle.std.specs.Float.{nan}
use Rattle.std.specs.Float.Ieee.{le, eq, neg}
use Rattle.linear.specs.declared.Vector3f.{Vector3f}
use Rattle.linear.specs.declared.Vector4f.{Vector4f}
use Rattle.linear.specs.declared.Vector6f.{Vector6f}
use Rattle.params.specs.declared.TheConstants.{BODY_ACCEL_CLAMP_LINEAR, BODY_ACCEL_CLAMP_ANGULAR, BODY_VEL_CLAMP_LINEAR, BODY_VEL_CLAMP_ANGULAR}
use Rattle.control_context.specs.declared.recovery.TrackingDivergenceState.TheVariants.{Normal}
use Rattle.control_context.specs.Clamped.{clamped_to, twist_clamped, accel_clamped}
use Rattle.control_context.specs.Recovery.{recovery}

-- ---- the clamps

-- NaN, or between -bound and bound
abbrev pub Bounded : Float → Float → Type 0
Bounded bound x = (x ≡ nan) ⊎ (T (le (neg bound) x) × T (le x bound))

-- x and y within the one bound, the third entry within the other
abbrev pub BoundedEntries : Float → Float → Vector3f → Type 0
BoundedEntries linear angular v = Bounded linear v.x × (Bounded linear v.y × Bounded angular v.z)

abbrev pub TwistIsBounded : Type 0
TwistIsBounded = (v : Vector3f) → BoundedEntries BODY_VEL_CLAMP_LINEAR BODY_VEL_CLAMP_ANGULAR (twist_clamped v).value

abbrev pub AccelIsBounded : Type 0
AccelIsBounded = (v : Vector3f) → BoundedEntries BODY_ACCEL_CLAMP_LINEAR BODY_ACCEL_CLAMP_ANGULAR (accel_clamped v).value

-- ---- the mark

-- entries are equal, as floats
abbrev pub SameEntries : Vector3f → Vector3f → Type 0
SameEntries u v = (eq u.x v.x ≡ true) × ((eq u.y v.y ≡ true) × (eq u.z v.z ≡ true))

-- a clamp that sets no mark left every entry equal
abbrev pub UnmarkedIsSame : Type 0
UnmarkedIsSame =
    (linear angular : Float) (v : Vector3f)
    → (clamped_to linear angular v).clamped ≡ false
    → SameEntries (clamped_to linear angular v).value v

-- ---- recovery

-- with no sample held Normal stays
abbrev pub NormalStaysUnheld : Type 0
NormalStaysUnheld = (estimate : Vector6f) (wheels : Vector4f) → recovery Normal None estimate wheels ≡ record { state = Normal; reset = false }
