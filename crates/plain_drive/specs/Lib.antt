-- Definitions that the contracts of `plain_drive` cite.
pub mod Calls
pub mod PlainDrive
pub mod EveryList
pub mod WorkedValues
pub mod Firmware
pub mod ControlUpdate
