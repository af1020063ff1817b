-- Worked values of the fresh brake at every tick length, each by a sweep (docs/RULES.md, 'Worked values').
use mathlib.Core.Path.{◌≡◌, sym, ap, ◌∙◌}
use Prim.Native.Nat.{ℕ}
use mathlib.Core.Bool.{Bool, ◌&&◌}
use lib.Dec.{T, eqb, eqb→eq}
use lib.Ieee.{Float, nan, binary32, of_bits, to_bits, fits, of_int, add, sub, mul, div, neg, lt, size, round}
use lib.Ieee.Fits.{and_l, and_r}
use Rattle.ieee754.specs.Magnitude.{magnitude}
use Rattle.ieee754.specs.Clamp.{clamp_between}
use Rattle.ieee754.proofs.Words.{written_word_read}
use Rattle.linear.specs.Vector.{zero_float}
use Rattle.tick.specs.TickLength.{IsTickLength, seconds_of}
use Rattle.tick.proofs.TickLengthExact.{bounds_tick_length}
use Rattle.tick.proofs.TickLengthSweep.{every_to, at_tick_length}
use Rattle.controllers.specs.Axis.{anti_jitter, limited, response, one_calculated, no_memory}
use Rattle.controllers.specs.Brake.{wheel_settings}

-- the current that a fresh brake gives one wheel at the tick length k
unfoldable pub fresh_current : ℕ → Float → Float
fresh_current k speed = (one_calculated wheel_settings no_memory zero_float speed (seconds_of k)).output

-- at every tick length a wheel of this speed is given this current
abbrev pub AlwaysGiven : Float → Float → Type 0
AlwaysGiven speed current = (k : ℕ) → IsTickLength k → fresh_current k speed ≡ current

-- the current is a float of binary32, and this is its word
unfoldable has_word : Float → ℕ → ℕ → Bool
has_word speed word k = let i = fresh_current k speed in eqb (to_bits binary32 i) word && fits binary32 i

swept : (speed : Float) (word : ℕ) → T (every_to (has_word speed word) 64) → AlwaysGiven speed (of_bits binary32 word)
unfolding has_word
swept speed word sweep k h =
    let i = fresh_current k speed in
    let t = at_tick_length (has_word speed word) sweep k (bounds_tick_length k h) in
    sym (written_word_read i (and_r (eqb (to_bits binary32 i) word) (fits binary32 i) t))
    ∙ ap (of_bits binary32) (eqb→eq (to_bits binary32 i) word (and_l (eqb (to_bits binary32 i) word) (fits binary32 i) t))

-- 500.0, -500.0, NaN and -infinity give -1.0, 1.0, -1.0 and -1.0
pub worked_out :
    AlwaysGiven (of_bits binary32 0x43fa_0000) (of_bits binary32 0xbf80_0000)
    × AlwaysGiven (of_bits binary32 0xc3fa_0000) (of_bits binary32 0x3f80_0000)
    × AlwaysGiven nan (of_bits binary32 0xbf80_0000)
    × AlwaysGiven (of_bits binary32 0xff80_0000) (of_bits binary32 0xbf80_0000)
unfolding has_word fresh_current wheel_settings one_calculated response limited anti_jitter no_memory seconds_of magnitude clamp_between add sub mul div neg lt to_bits of_bits of_int fits size round
worked_out = (
  swept (of_bits binary32 0x43fa_0000) 0xbf80_0000 tt,
  swept (of_bits binary32 0xc3fa_0000) 0x3f80_0000 tt,
  swept nan 0xbf80_0000 tt,
  swept (of_bits binary32 0xff80_0000) 0xbf80_0000 tt,
)
