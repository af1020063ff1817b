-- The lines of program `drive` but the last, as bytes in ASCII (docs/RULES.md, 'The lines of drive').
use Rattle.std.specs.Prelude.{ℕ, Bool, if◌then◌else◌, List, [], ◌∷◌, ◌++◌, Result, Ok, Err}
use Rattle.linear.specs.declared.Vector4f.{Vector4f}
use Rattle.tick.specs.declared.action.GateAction.{GateAction}
use Rattle.tick.specs.Outcome.{letter_of}
use Rattle.tick.specs.declared.refusal.Refusal.{Refusal}
use Rattle.tick.specs.Refusal.{refusal_number}
use Rattle.line_text.specs.Pieces.{decimal, field, newline}
use Rattle.line_text.specs.Wheels.{wheels_text}
use Rattle.line_text.specs.declared.line.TickLine.{TickLine}
use Rattle.line_text.specs.declared.line.RefusedLine.{RefusedLine}
use Rattle.line_text.specs.declared.line.Line.{Line}
use Rattle.line_text.specs.declared.line.Line.TheVariants.{Tick, Refused}

-- the outcome's letter, `V` or `-` for active at the tick's end, `B` (recovering) or `N`
abbrev pub marks_text : GateAction → Bool → Bool → List ℕ
marks_text action active recovering =
    field (letter_of action ∷ []) ++ field ((if active then 86 else 45) ∷ []) ++ field ((if recovering then 66 else 78) ∷ [])

-- in the place of the wheel speeds `E` and the refusal
abbrev pub failed_text : Refusal → List ℕ
failed_text refusal = field (69 ∷ []) ++ decimal (refusal_number refusal)

-- what ends a tick's line
abbrev pub ending_text : Result Vector4f Refusal → List ℕ
ending_text (Ok wheels) = wheels_text wheels
ending_text (Err refusal) = failed_text refusal

-- per tick: number, letter, `V` or `-`, `B` or `N`, and the ending
abbrev pub tick_text : TickLine → List ℕ
tick_text t =
    decimal t.number
    ++ marks_text t.action t.active t.recovering
    ++ ending_text t.ending
    ++ newline

-- a refused block: the number its tick would have had, `!`, the refusal
abbrev pub refused_text : RefusedLine → List ℕ
refused_text r = decimal r.number ++ field (33 ∷ []) ++ field (decimal (refusal_number r.refusal)) ++ newline

-- a tick's line, or a refused block's
abbrev pub line_text : Line → List ℕ
line_text (Tick t) = tick_text t
line_text (Refused r) = refused_text r
