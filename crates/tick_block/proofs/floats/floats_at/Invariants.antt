use Rattle.std.proofs.Common.{◌≡◌, ℕ, ◌+◌, ◌<◌, length, get_or}
use Rattle.linear.specs.Vector.{zero_float}
use Rattle.tick_block.specs.Floats.{float_at}
use Rattle.tick_block.proofs.floats.floats_at.Given as goal

-- those that are read
abbrev pub invariant-loop-i : goal.invariant-loop-i
invariant-loop-i g l = (length l.x-items ≡ g.row.N) × ((k : ℕ) → k < l.i → get_or l.x-items k zero_float ≡ float_at l.block (l.at + k))
