-- The fields of a command are its words in order.
use mathlib.Core.Path.{◌≡◌, refl}
use mathlib.Core.List.{List, [], ◌∷◌}
use lib.Ieee.{Float}
use Rattle.linear.specs.Vector.{entry}
use Rattle.tick.specs.Command.{position_from, line_from, position_fields, line_fields}

-- the fields of a position are the words from the first on, in order, and so are those of a line
pub position_words : (w : List Float) → position_fields (position_from w) ≡ entry w 0 ∷ entry w 1 ∷ entry w 2 ∷ entry w 3 ∷ entry w 4 ∷ entry w 5 ∷ entry w 6 ∷ []
unfolding position_from
position_words w = refl

pub line_words : (w : List Float)
    → line_fields (line_from w)
    ≡ entry w 0 ∷ entry w 1 ∷ entry w 2 ∷ entry w 3 ∷ entry w 4 ∷ entry w 5 ∷ entry w 6 ∷ entry w 7 ∷ entry w 8 ∷ entry w 9 ∷ entry w 10 ∷ entry w 11 ∷ entry w 12 ∷ []
unfolding line_from
line_words w = refl
