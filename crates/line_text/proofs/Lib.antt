-- Laws and lemmas.
pub mod Bound
pub mod Cases
pub mod Digits
pub mod Library
pub mod Putting
pub mod TotalsCases
pub mod WheelsCases
