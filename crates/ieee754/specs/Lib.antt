-- Definitions that the contracts of `ieee754` cite.
pub mod Magnitude
pub mod Clamp
pub mod Root
pub mod Remainder
pub mod Hypot
pub mod Laws
