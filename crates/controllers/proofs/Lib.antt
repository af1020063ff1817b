-- Laws and lemmas.
pub mod AxisLaws
pub mod AxesLaws
mod Mapped
mod Entries
pub mod BrakeCases
pub mod WheelCases
pub mod LagLaws
pub mod LagRange
pub mod EncoderLaws
pub mod EncoderCases
