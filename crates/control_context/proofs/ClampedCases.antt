-- Worked cases: twist 10.0 is unclamped; NaN stays NaN and is marked clamped. By computation.
use mathlib.Core.Path.{◌≡◌, refl}
use mathlib.Core.Bool.{true, false}
use lib.Ieee.{nan, binary32, of_bits, lt, eq, ne, neg}
use Rattle.ieee754.specs.Clamp.{clamp_within}
use Rattle.linear.specs.declared.Vector3f.{Vector3f}
use Rattle.linear.specs.Vector.{zero_float}
use Rattle.control_context.specs.Clamped.{clamped_to, twist_clamped}

-- x and y at 10.0, the heading's at 5.0·TAU
abbrev at_bounds : Vector3f
at_bounds = record { x = of_bits binary32 0x4120_0000; y = of_bits binary32 0x4120_0000; z = of_bits binary32 0x41fb_53d2 }

pub ten_unclamped : twist_clamped at_bounds ≡ record { value = at_bounds; clamped = false }
unfolding clamped_to clamp_within lt eq ne neg of_bits
ten_unclamped = refl

-- v stays and is marked
abbrev StaysMarked : Vector3f → Type 0
StaysMarked v = twist_clamped v ≡ record { value = v; clamped = true }

-- a NaN in any one entry, the others 0.0
pub nan_marked : StaysMarked (record { x = nan; y = zero_float; z = zero_float }) × (StaysMarked (record { x = zero_float; y = nan; z = zero_float }) × StaysMarked (record { x = zero_float; y = zero_float; z = nan }))
unfolding clamped_to clamp_within lt eq ne neg of_bits
nan_marked = (refl, (refl, refl))
