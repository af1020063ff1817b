-- Found without this file, too, but then a wrong body is refused later (docs/DECISIONS.md, 11.1).
use Rattle.std.proofs.Common.{rules}
use Rattle.pass.proofs.calls.drive_on.Goals as goal

pub returns-in_err-keep : goal.returns-in_err-keep
returns-in_err-keep c = search rules fits 300

pub returns-in_err-keep-2 : goal.returns-in_err-keep-2
returns-in_err-keep-2 c = search rules fits 300

pub returns-in_err-finished : goal.returns-in_err-finished
returns-in_err-finished c = search rules fits 300

pub returns : goal.returns
returns c = search rules fits 300
