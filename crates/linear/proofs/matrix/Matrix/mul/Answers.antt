-- Every row is multiplied.
use Rattle.std.proofs.Common.{rules}
use Rattle.linear.proofs.Arrays.{filled_from}
use Rattle.linear.specs.Matrix.{product_of}
use Rattle.linear.proofs.matrix.Matrix.mul.Goals as goal

pub returns : goal.returns
unfolding product_of
returns g c = filled_from _ _ _ _ (search rules) c.loop-i.invariant.0 c.loop-i.invariant.1 c.loop-i-test.false
