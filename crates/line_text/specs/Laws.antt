-- How long a line may be: each statement is a clause of the function of src/laws.rt.
use Rattle.std.specs.Prelude.{◌≤◌, length}
use Rattle.tick.specs.declared.tally.Totals.{Totals}
use Rattle.line_text.specs.Text.{tick_text, refused_text}
use Rattle.line_text.specs.Totals.{totals_text}
use Rattle.line_text.specs.declared.line.TickLine.{TickLine}
use Rattle.line_text.specs.declared.line.RefusedLine.{RefusedLine}

-- a tick's line has at most 53 bytes
abbrev pub TicksFit : Type 0
TicksFit = (t : TickLine) → length (tick_text t) ≤ 53

-- a refused block's has at most 24
abbrev pub RefusedFit : Type 0
RefusedFit = (r : RefusedLine) → length (refused_text r) ≤ 24

-- the last line has at most 99
abbrev pub TotalsFit : Type 0
TotalsFit = (t : Totals) → length (totals_text t) ≤ 99
