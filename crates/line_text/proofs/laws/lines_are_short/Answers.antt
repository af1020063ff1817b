-- The laws of the lines' lengths, by numbers, so that a law with another bound is asked for its truth.
use Rattle.std.proofs.Common.{arith}
use Rattle.line_text.proofs.Bound.{tick_fits, refused_fits, totals_fit}
use Rattle.line_text.proofs.laws.lines_are_short.Goals as goal

pub returns : goal.returns
returns c = record { ticks = λ t. omega (arith, tick_fits t); refused = λ r. omega (arith, refused_fits r); totals = λ t. omega (arith, totals_fit t) }
