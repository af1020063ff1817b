-- Each clause is a lemma.
use mathlib.Core.Path.{sym}
use Rattle.plain_drive.proofs.PlainSteps.{recovery_ends}
use Rattle.pass.proofs.EveryLine.{every_line, every_batch_line, one_start}
use Rattle.pass.proofs.every_line.every_line.Goals as goal

pub returns : goal.returns
returns c = record {
  marks = every_line;
  batches = every_batch_line;
  one_k = one_start;
  resets = λ before held estimate wheels. sym (recovery_ends before held estimate wheels);
}
