-- Definitions that the contracts of `harness` cite.
pub mod Digits
pub mod Line
pub mod Puts
pub mod Tally
