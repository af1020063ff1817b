-- Laws and lemmas.
pub mod DecimalLaws
