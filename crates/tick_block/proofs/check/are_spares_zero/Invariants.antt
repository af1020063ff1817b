-- `zero` is whether the spare words passed are zero.
use Rattle.std.proofs.Common.{◌≡◌}
use Rattle.tick_block.specs.Check.{are_zero}
use Rattle.tick_block.proofs.check.are_spares_zero.Given as goal

abbrev pub invariant-loop-i : goal.invariant-loop-i
invariant-loop-i l = l.zero ≡ are_zero l.block l.i
