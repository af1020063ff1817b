-- cmd is what the turns so far make of `desired`.
use Rattle.std.proofs.Common.{◌≡◌}
use Rattle.controllers.specs.LagAxis.{iterated, lag_turn}
use Rattle.controllers.proofs.first_order_lag.axis.iterate.Given as goal

abbrev pub invariant-loop : goal.invariant-loop
invariant-loop l = l.cmd ≡ iterated l.counter (lag_turn l.one_minus_a l.target) l.desired
