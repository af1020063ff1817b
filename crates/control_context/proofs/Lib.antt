-- Laws and lemmas.
pub mod TrackingCases
pub mod RecoveryLaws
pub mod ClampedLaws
pub mod ClampedCases
pub mod DecisionLaws
pub mod EqualityLaws
