-- Each piece behind the one before.
use Rattle.line_text.proofs.Putting.{and_then}
use Rattle.line_text.proofs.line.put_tick.Goals as goal

pub returns-clause-puts : goal.returns-clause-puts
returns-clause-puts c = rw (← c.marks.ensures) (and_then (and_then (and_then c.put_decimal-at.ensures.puts c.put-at.ensures.puts) c.put_ending-at.ensures.puts) c.put.ensures.puts)
