-- Lines worked out: a first tick's, that of a tick which ended with refusal 11, and a refused block's.
use mathlib.Core.Bool.{true, false}
use mathlib.Core.Path.{◌≡◌, refl}
use mathlib.Core.List.{[], ◌∷◌}
use lib.Ieee.{binary32, of_bits, to_bits}
use Rattle.std.specs.Prelude.{Ok, Err}
use Rattle.tick.specs.declared.action.GateAction.TheVariants.{NoVision, Accept}
use Rattle.tick.specs.declared.refusal.Refusal.TheVariants as Why
use Rattle.line_text.specs.declared.line.Line.TheVariants.{Tick, Refused}
use Rattle.line_text.specs.Pieces.{decimal_in, decimal}
use Rattle.line_text.specs.Wheels.{hex}
use Rattle.line_text.specs.Text.{line_text}

-- `0 Q - N 00000000 00000000 00000000 00000000`
first_line : line_text (Tick (record { number = 0; action = NoVision; active = false; recovering = false; ending = Ok (record { x = of_bits binary32 0; y = of_bits binary32 0; z = of_bits binary32 0; w = of_bits binary32 0 }) }))
    ≡ 48 ∷ 32 ∷ 81 ∷ 32 ∷ 45 ∷ 32 ∷ 78
    ∷ 32 ∷ 48 ∷ 48 ∷ 48 ∷ 48 ∷ 48 ∷ 48 ∷ 48 ∷ 48
    ∷ 32 ∷ 48 ∷ 48 ∷ 48 ∷ 48 ∷ 48 ∷ 48 ∷ 48 ∷ 48
    ∷ 32 ∷ 48 ∷ 48 ∷ 48 ∷ 48 ∷ 48 ∷ 48 ∷ 48 ∷ 48
    ∷ 32 ∷ 48 ∷ 48 ∷ 48 ∷ 48 ∷ 48 ∷ 48 ∷ 48 ∷ 48 ∷ 10 ∷ []
unfolding decimal_in decimal hex to_bits of_bits
first_line = refl

-- `1207 T V B E11`
failed_line : line_text (Tick (record { number = 1207; action = Accept; active = true; recovering = true; ending = Err Why.EstimatorFailed }))
    ≡ 49 ∷ 50 ∷ 48 ∷ 55 ∷ 32 ∷ 84 ∷ 32 ∷ 86 ∷ 32 ∷ 66 ∷ 32 ∷ 69 ∷ 49 ∷ 49 ∷ 10 ∷ []
unfolding decimal_in decimal
failed_line = refl

-- `16777216 ! 3`
refused_line : line_text (Refused (record { number = 16777216; refusal = Why.TickLimit }))
    ≡ 49 ∷ 54 ∷ 55 ∷ 55 ∷ 55 ∷ 50 ∷ 49 ∷ 54 ∷ 32 ∷ 33 ∷ 32 ∷ 51 ∷ 10 ∷ []
unfolding decimal_in decimal
refused_line = refl
