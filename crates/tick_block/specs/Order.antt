-- The order of a pass' blocks.
use Rattle.std.specs.Prelude.{ℕ, if◌then◌else◌, ◌==◌, Result, Ok, Err}
use Rattle.tick.specs.declared.refusal.Refusal.{Refusal}
use Rattle.tick.specs.declared.refusal.Refusal.TheVariants as Why

-- a block comes in order, or its k is not the drive's own, or its number is not the next
abbrev pub order_tested : ℕ → ℕ → ℕ → ℕ → Result (Unit {0}) Refusal
order_tested tick_length own number next = if tick_length == own then (if number == next then Ok tt else Err Why.Order) else Err Why.OtherTickLength

-- the number of the refusal, 0 for a block that comes in order
abbrev pub order_of : ℕ → ℕ → ℕ → ℕ → ℕ
order_of tick_length own number next = if tick_length == own then (if number == next then 0 else 10) else 9
