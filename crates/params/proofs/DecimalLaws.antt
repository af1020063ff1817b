-- Each constant's bits are those of the decimal that the Rust writes, and where it writes a term, what binary32 makes of the term in its order.
use mathlib.Core.Path.{refl}
use lib.Ieee.{size, round, add, mul, div, neg, of_int, of_bits}
use Rattle.params.specs.Decimals.{decimal, AngularClampIsWritten, BaseRadiusIsWritten, ClockStartIsWritten, BrakeLeastCurrentIsWritten, TrackingIsWritten, LimitsAreWritten}

pub body_vel_clamp_angular_lem : AngularClampIsWritten
unfolding decimal round size mul of_bits
body_vel_clamp_angular_lem = refl

pub vision_gate_base_radius : BaseRadiusIsWritten
unfolding decimal round size add mul div of_int of_bits
vision_gate_base_radius = refl

pub vision_clock_start : ClockStartIsWritten
unfolding decimal round size add of_bits
vision_clock_start = refl

pub brake_least_current : BrakeLeastCurrentIsWritten
unfolding neg of_bits
brake_least_current = refl

pub tracking_as_written : TrackingIsWritten
unfolding decimal round size of_bits
tracking_as_written = refl

pub limits_as_written : LimitsAreWritten
unfolding decimal round size of_bits
limits_as_written = refl
