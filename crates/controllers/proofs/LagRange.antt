-- At every tick length the horizon over the lag's dt, plus 0.5, can be cast: one test that antt computes over all k from 1 to 64.
use Rattle.std.proofs.Common.{ℕ, Bool, true, false, ◌&&◌, T, pos}
use lib.Ieee.{Float, fin, of_int, of_bits, add, mul, div, lt}
use lib.Ieee.Fits.{and_l, and_r}
use Rattle.tick.specs.TickLength.{IsTickLength, micros_of}
use Rattle.tick.proofs.TickLengthExact.{bounds_tick_length}
use Rattle.tick.proofs.TickLengthSweep.{every_to, at_tick_length}
use Rattle.controllers.specs.EncoderLag.{duration_to_secs, horizon_over, Castable, dt_of}

-- `Castable` as a test
in_range : Float → Bool
in_range x = lt (fin true 1 (pos 0)) x && lt x (fin false 1 (pos 64))

castable_in : (x : Float) → T (in_range x) → Castable x
unfolding in_range
castable_in x t = (and_l (lt (fin true 1 (pos 0)) x) (lt x (fin false 1 (pos 64))) t, and_r (lt (fin true 1 (pos 0)) x) (lt x (fin false 1 (pos 64))) t)

swept : T (every_to (λ k. in_range (horizon_over (dt_of k))) 64)
unfolding in_range horizon_over duration_to_secs micros_of of_int of_bits add mul div lt
swept = tt

pub horizon_castable : (k : ℕ) → IsTickLength k → Castable (horizon_over (dt_of k))
horizon_castable k h = castable_in (horizon_over (dt_of k)) (at_tick_length (λ n. in_range (horizon_over (dt_of n))) swept k (bounds_tick_length k h))
