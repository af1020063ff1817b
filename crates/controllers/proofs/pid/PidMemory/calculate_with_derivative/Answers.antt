-- Every entry is an axis's answer.
use Rattle.std.proofs.Common.{ap, ◌≤◌, arith}
use Rattle.controllers.proofs.Entries.{with_derivative_is}
use Rattle.controllers.proofs.pid.PidMemory.calculate_with_derivative.Goals as goal

pub returns : goal.returns
returns g c =
    let done : g.row.N ≤ c.loop-i.i = omega arith in
    let told = with_derivative_is c.args.settings.now c.args.self.now c.args.setpoint c.args.process_variable c.args.derivative c.args.dt_s c.loop-i.output c.loop-i.self.axes (omega arith) (omega arith) (omega arith) (omega arith) (omega arith) (omega arith) (omega arith)
    (λ i d m e x lt. c.loop-i.invariant.2 i d m e x (omega (arith, lt, done))) in
    (ap (λ a. a.output) told, ap (λ a. a.memory) told)
