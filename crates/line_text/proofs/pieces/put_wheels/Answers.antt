-- Each wheel speed behind the one before.
use Rattle.line_text.proofs.Putting.{and_then}
use Rattle.line_text.proofs.pieces.put_wheels.Goals as goal

pub returns-clause-puts : goal.returns-clause-puts
returns-clause-puts c = and_then (and_then (and_then c.put_wheel-at.ensures.puts c.put_wheel-at-2.ensures.puts) c.put_wheel-at-3.ensures.puts) c.put_wheel.ensures.puts
