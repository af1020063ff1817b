-- Found without this file, too, but then a wrong body is refused later (docs/DECISIONS.md, 11.1).
use Rattle.std.proofs.Common.{rules}
use Rattle.pass.proofs.pass.Pass.take.Goals as goal

pub returns-in_err-b : goal.returns-in_err-b
returns-in_err-b c = search rules fits 60

pub returns-in_err-c : goal.returns-in_err-c
returns-in_err-c c = search rules fits 60

pub returns-in_err-line : goal.returns-in_err-line
returns-in_err-line c = search rules fits 60

pub returns : goal.returns
returns c = search rules fits 60
