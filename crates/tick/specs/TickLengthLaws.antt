-- A tick length in seconds is exact: each statement is a clause of a function of src/tick_length_laws.rt.
use Rattle.std.specs.Prelude.{◌≡◌, ℕ, ◌+◌, ◌*◌, ◌^◌, ◌<◌, ◌≤◌, true, false}
use Rattle.std.specs.Float.Ieee.Exact.{HasValue}
use Rattle.tick.specs.TickLength.{is_tick_length, seconds_of, micros_of}

-- the k of a tick length is from 1 to 64
abbrev pub TickLengthBounds : Type 0
TickLengthBounds = (k : ℕ) → is_tick_length k ≡ true → (1 ≤ k) × (k ≤ 64)

-- k/4096 s is not rounded: the float is k / 4096 in size, for every k below 2 ^ 24, and has no sign
abbrev pub SecondsAreExact : Type 0
SecondsAreExact = (k : ℕ) → k < 2 ^ 24 → HasValue (seconds_of k) false k 4096

-- the microseconds are those of k/4096 s, rounded down
abbrev pub MicrosAreFloor : Type 0
MicrosAreFloor = (k : ℕ) → (micros_of k * 4096 ≤ 1000000 * k) × (1000000 * k < (micros_of k + 1) * 4096)
