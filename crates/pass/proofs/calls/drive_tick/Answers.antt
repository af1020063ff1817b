-- Found without this file, too, but then a wrong body is refused later (docs/DECISIONS.md, 11.1).
use Rattle.std.proofs.Common.{rules}
use Rattle.pass.proofs.calls.drive_tick.Goals as goal

pub returns-in_err-action : goal.returns-in_err-action
returns-in_err-action c = search rules fits 60

pub returns : goal.returns
returns c = search rules fits 60
