-- One call, any list of calls, and such a list from new.
use Rattle.controllers.proofs.AxesLaws.{call_bounded, integral_bounded, new_integral_bounded}
use Rattle.controllers.proofs.pid_laws.integral_is_bounded.Goals as goal

pub returns : goal.returns
returns c = record { call = call_bounded; calls = integral_bounded; new = new_integral_bounded }
