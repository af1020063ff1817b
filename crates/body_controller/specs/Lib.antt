-- Definitions that the contracts of `body_controller` cite, and a tick's calls in turn, which crates above cite.
pub mod Turn
pub mod Controller
pub mod Sight
pub mod Plan
pub mod Steer
pub mod Finish
pub mod InTurn
