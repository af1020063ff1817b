-- The rows that are passed are multiplied.
use Rattle.std.proofs.Common.{◌≡◌, ℕ, ◌<◌, [], length, get_or}
use Rattle.linear.specs.Vector.{zero_float, dot_of}
use Rattle.linear.proofs.matrix.Matrix.mul.Given as goal

abbrev pub invariant-loop-i : goal.invariant-loop-i
invariant-loop-i g l =
    (length l.x-items ≡ g.row.R) × ((k : ℕ) → k < l.i → get_or l.x-items k zero_float ≡ dot_of (get_or l.self.rows k []) l.v)
