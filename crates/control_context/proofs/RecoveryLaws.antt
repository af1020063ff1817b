-- What recovery does where no sample is held.
use mathlib.Core.Path.{◌≡◌, refl}
use mathlib.Core.Bool.{false}
use Rattle.linear.specs.declared.Vector4f.{Vector4f}
use Rattle.linear.specs.declared.Vector6f.{Vector6f}
use Rattle.control_context.specs.declared.recovery.TrackingDivergenceState.TheVariants.{Normal}
use Rattle.std.specs.Prelude.{None}
use Rattle.control_context.specs.Recovery.{recovery}

-- with none held Normal stays
pub none_held_normal : (estimate : Vector6f) (wheels : Vector4f) → recovery Normal None estimate wheels ≡ record { state = Normal; reset = false }
unfolding recovery
none_held_normal estimate wheels = refl
