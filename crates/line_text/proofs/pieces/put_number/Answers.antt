-- The number behind its space.
use Rattle.line_text.proofs.Putting.{and_then}
use Rattle.line_text.proofs.pieces.put_number.Goals as goal

pub returns-clause-puts : goal.returns-clause-puts
returns-clause-puts c = and_then c.put-at.ensures.puts c.put_decimal.ensures.puts
