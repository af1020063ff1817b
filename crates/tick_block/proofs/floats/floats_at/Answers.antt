-- Every index is written.
use Rattle.linear.proofs.Arrays.{filled}
use Rattle.tick_block.specs.Floats.{floats_at}
use Rattle.tick_block.proofs.floats.floats_at.Goals as goal

pub returns : goal.returns
unfolding floats_at
returns g c = filled _ c.loop-i.invariant.0 c.loop-i.invariant.1 c.loop-i-test.false
