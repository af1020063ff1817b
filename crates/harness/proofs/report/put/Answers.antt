-- The bytes are those of the text.
use Rattle.std.proofs.Common.{refl, arith, length}
use Rattle.harness.proofs.Putting.{put_is}
use Rattle.harness.proofs.report.put.Goals as goal

pub returns : goal.returns
returns c = record { puts = put_is c.args.out.now c.args.text.now _ c.args.at (length c.args.text.now) (omega (arith, c.told-out, c.requires)) c.copy_from_slice.ensures.after refl }
