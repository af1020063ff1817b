-- Laws and lemmas.
pub mod Appending
pub mod Batches
pub mod BatchHolds
pub mod InTurn
pub mod EveryLine
pub mod EveryPass
pub mod Going
pub mod Read
pub mod Running
pub mod Ticks
