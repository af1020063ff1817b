-- Those that are read, and those that are still 0.0.
use Rattle.std.proofs.Common.{◌≡◌, ℕ, ◌<◌, ◌≤◌, length, get_or}
use Rattle.linear.specs.Vector.{zero_float}
use Rattle.tick_block.specs.Inputs.{word_below}
use Rattle.tick_block.proofs.inputs.first_words.Given as goal

abbrev pub invariant-loop-i : goal.invariant-loop-i
invariant-loop-i l =
    (length l.x-items ≡ 13)
    × ((k : ℕ) → k < l.i → get_or l.x-items k zero_float ≡ word_below l.block l.n k)
    × ((k : ℕ) → l.i ≤ k → get_or l.x-items k zero_float ≡ zero_float)
