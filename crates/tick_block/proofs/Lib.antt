-- Laws and lemmas.
pub mod Vectors
pub mod Past
pub mod Refusal
