-- The axes below i have answered, and the others stay.
use Rattle.std.proofs.Common.{◌≡◌, ℕ, ◌<◌, ◌≤◌, length, get_or}
use lib.Ieee.{Float, nan}
use Rattle.controllers.specs.declared.pid.PidSettings.{PidSettings}
use Rattle.controllers.specs.declared.pid.AxisMemory.{AxisMemory}
use Rattle.controllers.specs.Axis.{one_with_derivative}
use Rattle.controllers.proofs.pid.PidMemory.calculate_with_derivative.Given as goal

abbrev pub invariant-loop-i : goal.invariant-loop-i
invariant-loop-i g l =
    (length l.output ≡ g.row.N)
    × (length l.self.axes ≡ g.row.N)
    × ((k : ℕ) (c : PidSettings) (m e : AxisMemory) (x : Float) → k < l.i
    → record { output = get_or l.output k x; memory = get_or l.self.axes k e } ≡ one_with_derivative (get_or l.settings k c) (get_or l.fn.self.axes k m) (get_or l.setpoint k nan) (get_or l.process_variable k nan) (get_or l.derivative k nan) l.dt_s)
    × ((k : ℕ) (m e : AxisMemory) → l.i ≤ k → k < g.row.N → get_or l.self.axes k e ≡ get_or l.fn.self.axes k m)
