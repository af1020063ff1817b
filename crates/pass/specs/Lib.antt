-- Definitions that the contracts of `pass` cite.
pub mod Tick
pub mod Pass
pub mod PlainPass
pub mod Batch
pub mod BatchLaws
pub mod BatchHolds
pub mod EveryLine
pub mod Run
