-- Laws and lemmas.
pub mod Words
pub mod Magnitudes
pub mod Closest
pub mod Same
pub mod ClampLaws
pub mod Whole
pub mod Rounded
pub mod Patterns
pub mod Normal
pub mod Positive
pub mod RootLaws
pub mod RootCases
mod Fractions
mod Grid
mod Least
mod Values
pub mod Minus
pub mod RemainderLaws
mod Half
mod Small
mod Beyond
pub mod RemainderCases
pub mod Tested
pub mod HypotLaws
pub mod HypotCases
