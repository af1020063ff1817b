-- Definitions that the contracts of `controllers` cite.
pub mod Axis
pub mod Axes
pub mod PidAxes
pub mod PidLaws
pub mod Brake
pub mod FirstOrderLag
pub mod LagAxis
pub mod EncoderLag
