-- Laws and lemmas.
pub mod Simulation
pub mod PlainSteps
pub mod Watched
pub mod EveryList
pub mod Starts
pub mod WorkedValues
pub mod ControlUpdate
