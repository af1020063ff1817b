-- The sum so far is 1 plus that of the words passed, modulo 2^32.
use Rattle.std.proofs.Common.{◌≡◌, ◌+◌, ◌%◌, ◌^◌}
use Rattle.tick_block.specs.Check.{word_sum}
use Rattle.tick_block.proofs.check.check_of.Given as goal

abbrev pub invariant-loop-i : goal.invariant-loop-i
invariant-loop-i l = l.sum ≡ (1 + word_sum l.block l.i) % 2 ^ 32
