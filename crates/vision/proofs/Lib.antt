-- Laws and lemmas.
pub mod Least
pub mod Ticks
pub mod Clock
pub mod Outcomes
pub mod Radius
pub mod Held
pub mod Cases
