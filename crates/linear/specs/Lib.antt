-- Definitions that the contracts of `linear` cite.
pub mod Vector
pub mod Matrix
pub mod Rotation
pub mod Laws
