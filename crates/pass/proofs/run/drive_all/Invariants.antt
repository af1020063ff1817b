-- The invariant of the loop of `drive_all`: whole blocks are read and driven, none is refused, and their text is written. Ticks are bounded.
use Rattle.std.proofs.Common.{◌-◌}
use Rattle.tick.specs.Tally.{tick_limit}
use Rattle.pass.specs.Pass.{next_number}
use Rattle.pass.proofs.Running.{Running}
use Rattle.pass.proofs.run.drive_all.Given as goal

abbrev pub invariant-loop-n : goal.invariant-loop-n
invariant-loop-n g l = Running (g.R.Read.remaining l.initial.reader) (g.R.Read.remaining l.reader) (g.W.Write.contents l.initial.writer) (g.W.Write.contents l.writer) l.pass

abbrev pub decreases-loop-n : goal.decreases-loop-n
decreases-loop-n g l = tick_limit - next_number l.pass
