-- Definitions that the contracts of `vision` cite.
pub mod Vision
pub mod Since
pub mod Seeding
pub mod Gate
pub mod Laws
