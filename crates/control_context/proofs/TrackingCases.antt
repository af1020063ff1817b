-- -0.0 does not survive in a setpoint: the Rust adds it to 0.0. By computation.
use mathlib.Core.Path.{◌≡◌, refl}
use lib.Ieee.{Float, binary32, of_bits, round, size, add, mul}
use Rattle.linear.specs.Vector.{zeros3, sum_of, scaled}
use Rattle.control_context.specs.Setpoints.{twist_setpoint, accel_setpoint}

-- -0.0
abbrev minus_zero : Float
minus_zero = of_bits binary32 0x8000_0000

pub accel_minus_zero : accel_setpoint (record { x = minus_zero; y = minus_zero; z = minus_zero }) ≡ zeros3
unfolding zeros3 sum_of scaled add mul round size of_bits
accel_minus_zero = refl

pub twist_minus_zero : twist_setpoint (record { x = minus_zero; y = minus_zero; z = minus_zero }) ≡ zeros3
unfolding zeros3 sum_of scaled add mul round size of_bits
twist_minus_zero = refl
