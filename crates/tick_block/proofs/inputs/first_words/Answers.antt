-- Every index is passed.
use Rattle.linear.proofs.Arrays.{filled}
use Rattle.tick_block.specs.Inputs.{first_words}
use Rattle.tick_block.proofs.inputs.first_words.Goals as goal

pub returns : goal.returns
unfolding first_words
returns c = filled _ c.loop-i.invariant.0 c.loop-i.invariant.1 c.loop-i-test.false
