-- Each piece behind the one before.
use Rattle.line_text.proofs.Putting.{and_then}
use Rattle.line_text.proofs.line.put_refused.Goals as goal

pub returns-clause-puts : goal.returns-clause-puts
returns-clause-puts c = rw (← c.number.ensures) (and_then (and_then (and_then c.put_decimal-at.ensures.puts c.put-at.ensures.puts) c.put_number-end.ensures.puts) c.put.ensures.puts)
