-- Definitions that the contracts of `replay_lists` cite.
pub mod Answer
pub mod Record
pub mod Words
pub mod Kinds
pub mod Pids
pub mod Brake
pub mod Lag
pub mod Subject
pub mod Compare
