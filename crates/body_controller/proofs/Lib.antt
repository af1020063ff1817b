-- Laws and lemmas.
pub mod Numbers
