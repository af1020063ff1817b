-- A tracking gate's t and the vision clock after m ticks that took no sighting (docs/RULES.md, 'The vision clock').
use Rattle.std.specs.Prelude.{ℕ, zero, suc, false, Float}
use Rattle.std.specs.Float.{binary32}
use Rattle.std.specs.Float.Ieee.{add}
use Rattle.linear.specs.Vector.{zero_float}
use Rattle.vision.specs.Vision.{clock_after}

-- t, which a taken sighting set to 0.0: the sum of m tick lengths, each step rounded to binary32
unfoldable pub since_taken : Float → ℕ → Float
since_taken dt zero = zero_float
since_taken dt (suc m) = add binary32 (since_taken dt m) dt

-- the vision clock, from where it stood: 0.0 after taking, 1.5 when new or reset
unfoldable pub clock_since : Float → Float → ℕ → Float
clock_since clock dt zero = clock
clock_since clock dt (suc m) = clock_after (clock_since clock dt m) false dt
