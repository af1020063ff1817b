-- The tick length, k/4096 s with k from 1 to 64 (docs/RULES.md, 'The tick length'). A TickLength is its number k here.
use Rattle.std.specs.Prelude.{ℕ, ◌*◌, ◌/◌, ◌≤◌, Bool, if◌then◌else◌, ◌&&◌, nat_le, pos, Float, Result, Ok, Err}
use Rattle.std.specs.Float.{binary32}
use Rattle.std.specs.Float.Ieee.{div, of_int, of_bits}
use Rattle.tick.specs.declared.refusal.Refusal.{Refusal}
use Rattle.tick.specs.declared.refusal.Refusal.TheVariants as Why

-- what every TickLength is by its type
abbrev pub IsTickLength : ℕ → Type 0
IsTickLength k = (1 ≤ k) × (k ≤ 64)

-- the same, as a test
abbrev pub is_tick_length : ℕ → Bool
is_tick_length k = nat_le 1 k && nat_le k 64

-- the refusal's number for a k, 0 where it is none
abbrev pub refusal_of : ℕ → ℕ
refusal_of k = if is_tick_length k then 0 else 1

-- the answer to a k
abbrev pub tick_length_of : ℕ → Result ℕ Refusal
tick_length_of k = if is_tick_length k then Ok k else Err Why.TickLength

-- k/4096 s as a float: k, divided by 4096.0
unfoldable pub seconds_of : ℕ → Float
seconds_of k = div binary32 (of_int binary32 (pos k)) (of_bits binary32 0x4580_0000)

-- floor(15625 * k / 64): k/4096 s in whole microseconds
unfoldable pub micros_of : ℕ → ℕ
micros_of k = 15625 * k / 64
