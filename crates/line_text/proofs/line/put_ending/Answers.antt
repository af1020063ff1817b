-- The number behind its letter.
use Rattle.line_text.proofs.Putting.{and_then}
use Rattle.line_text.proofs.line.put_ending.Goals as goal

pub returns-in-Err-clause-puts : goal.returns-in-Err-clause-puts
returns-in-Err-clause-puts c = rw (c.in-Err.is, ← c.number.ensures) (and_then c.put-at.ensures.puts c.put_decimal.ensures.puts)
