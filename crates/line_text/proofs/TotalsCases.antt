-- The last line, worked out.
use mathlib.Core.Path.{◌≡◌, refl}
use mathlib.Core.List.{[], ◌∷◌}
use Rattle.line_text.specs.Pieces.{decimal_in, decimal}
use Rattle.line_text.specs.Totals.{totals_text}

-- `1 1 0 0 0 0 0 0 0`
last_line : totals_text (record { ticks = 1; counts = record { quiet = 1; gathered = 0; complete = 0; reseeded = 0; taken = 0; jump = 0; first = 0; refused = 0 } })
    ≡ 49 ∷ 32 ∷ 49 ∷ 32 ∷ 48 ∷ 32 ∷ 48 ∷ 32 ∷ 48 ∷ 32 ∷ 48 ∷ 32 ∷ 48 ∷ 32 ∷ 48 ∷ 32 ∷ 48 ∷ 10 ∷ []
unfolding decimal_in decimal
last_line = refl
