-- The laws of a tick length.
use Rattle.tick.proofs.TickLengthExact.{tick_length_bounds, seconds_exact, micros_floor}
use Rattle.tick.proofs.tick_length_laws.tick_length_is_exact.Goals as goal

pub returns : goal.returns
returns c = record { bounds = tick_length_bounds; seconds = seconds_exact; micros = micros_floor }
