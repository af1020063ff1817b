-- The rows that are read.
use Rattle.std.proofs.Common.{◌≡◌, ℕ, ◌+◌, ◌*◌, ◌<◌, [], length, get_or}
use Rattle.tick_block.specs.Floats.{floats_at}
use Rattle.tick_block.proofs.inputs.matrix_at.Given as goal

abbrev pub invariant-loop-i : goal.invariant-loop-i
invariant-loop-i g l =
    (length l.row-items ≡ g.row.R)
    × ((k : ℕ) → k < l.i → get_or l.row-items k [] ≡ floats_at l.block (l.at + k * g.row.C) g.row.C)
