-- Laws and lemmas.
pub mod TickLengthExact
pub mod TickLengthAnswer
pub mod TickLengthSweep
pub mod TickLengthCases
pub mod CommandLemmas
