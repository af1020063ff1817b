-- Laws and lemmas.
pub mod Digits
pub mod Line
pub mod Putting
