-- The settings are four wheels', and the controller's answer is the brake's.
use Rattle.std.proofs.Common.{◌∙◌, ap}
use lib.Ieee.{neg, of_bits}
use Rattle.linear.specs.Vector.{vector4_of}
use Rattle.controllers.specs.Brake.{computed, wheel_settings}
use Rattle.controllers.proofs.active_brake.ActiveBrakeController.compute.Goals as goal

pub returns : goal.returns
unfolding computed wheel_settings neg of_bits
returns c =
    let speeds = c.into-speeds.ensures in
    let seconds = c.seconds-dt_s.ensures.value in
    rw (← speeds, ← seconds) (c.into.ensures ∙ ap vector4_of c.calculate-currents.ensures.0, ap (λ m. record c.args.self.now { pid = m }) c.calculate-currents.ensures.1)
