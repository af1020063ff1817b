-- Every row is written.
use Rattle.std.proofs.Common.{ap}
use Rattle.linear.proofs.Arrays.{filled}
use Rattle.linear.specs.declared.matrix.Matrix.{Matrix}
use Rattle.tick_block.specs.Inputs.{matrix_at}
use Rattle.tick_block.proofs.inputs.matrix_at.Goals as goal

pub returns : goal.returns
unfolding matrix_at
returns g c =
    ap {B = Matrix g.row.R g.row.C} (λ rows. record { rows = rows })
    (filled _ c.loop-i.invariant.0 c.loop-i.invariant.1 c.loop-i-test.false)
