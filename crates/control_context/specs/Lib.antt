-- Definitions that the contracts of `control_context` cite.
pub mod Setpoints
pub mod ErrorLimits
pub mod Divergence
pub mod Recovery
pub mod Stop
pub mod Clamped
pub mod Friction
pub mod TrackingLaws
pub mod Memory
pub mod Plan
pub mod Answer
pub mod Equality
pub mod ManeuverLaws
pub mod Context
pub mod StateEstimate
pub mod Decision
pub mod Following
