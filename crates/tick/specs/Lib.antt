-- Definitions that the contracts of `tick` cite.
pub mod Refusal
pub mod RefusalText
pub mod TickLength
pub mod TickLengthLaws
pub mod Start
pub mod Mode
pub mod Command
pub mod CommandLaws
pub mod Outcome
pub mod Tally
pub mod Outputs
