-- What is chosen once, when a controller starts.
use Rattle.std.specs.Prelude.{ℕ, if◌then◌else◌, Float, Result, Ok, Err}
use Rattle.tick.specs.declared.refusal.Refusal.{Refusal}
use Rattle.tick.specs.declared.refusal.Refusal.TheVariants as Why
use Rattle.tick.specs.declared.start.Start.{Start}
use Rattle.tick.specs.TickLength.{IsTickLength, is_tick_length, seconds_of}

-- what every Start is by its type
abbrev pub IsStart : Start → Type 0
IsStart s = IsTickLength s.tick_length

-- the answer to a k
abbrev pub start_of : ℕ → Result Start Refusal
start_of k = if is_tick_length k then Ok (record { tick_length = k }) else Err Why.TickLength

-- the time of a tick, in seconds
abbrev pub dt_of : Start → Float
dt_of s = seconds_of s.tick_length
