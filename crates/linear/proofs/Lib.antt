-- Laws and lemmas.
pub mod VectorLaws
pub mod Arrays
pub mod Products
