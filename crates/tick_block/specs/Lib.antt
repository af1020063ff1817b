-- Definitions that the contracts of `tick_block` cite.
pub mod Layout
pub mod Words
pub mod Floats
pub mod Flags
pub mod Check
pub mod Tests
pub mod Order
pub mod Inputs
pub mod Block
