-- Normal or recovering.
use Rattle.std.specs.Prelude.{Bool, true, false}
use Rattle.control_context.specs.declared.recovery.TrackingDivergenceState.{TrackingDivergenceState}
use Rattle.control_context.specs.declared.recovery.TrackingDivergenceState.TheVariants.{Normal, Recovering}

abbrev pub is_recovering : TrackingDivergenceState → Bool
is_recovering Normal = false
is_recovering Recovering = true
