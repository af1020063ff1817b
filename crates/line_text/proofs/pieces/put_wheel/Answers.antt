-- The digits behind their space.
use Rattle.line_text.proofs.Putting.{and_then}
use Rattle.line_text.proofs.pieces.put_wheel.Goals as goal

pub returns-clause-puts : goal.returns-clause-puts
returns-clause-puts c = and_then c.put-digits.ensures.puts c.put_hex.ensures.puts
