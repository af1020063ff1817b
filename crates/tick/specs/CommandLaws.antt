-- The fields of a command are its words in order: each statement is a clause of a function of src/command_laws.rt.
use Rattle.std.specs.Prelude.{◌≡◌, List, [], ◌∷◌, Float}
use Rattle.linear.specs.Vector.{entry}
use Rattle.tick.specs.Command.{position_from, line_from, position_fields, line_fields}

-- the 7 fields of a position are the words from the first on
abbrev pub PositionIsItsWords : Type 0
PositionIsItsWords =
    (w : List Float)
    → position_fields (position_from w)
    ≡ entry w 0 ∷ entry w 1 ∷ entry w 2 ∷ entry w 3 ∷ entry w 4 ∷ entry w 5 ∷ entry w 6 ∷ []

-- and so are the 13 of a line
abbrev pub LineIsItsWords : Type 0
LineIsItsWords =
    (w : List Float)
    → line_fields (line_from w)
    ≡ entry w 0 ∷ entry w 1 ∷ entry w 2 ∷ entry w 3 ∷ entry w 4 ∷ entry w 5 ∷ entry w 6
    ∷ entry w 7 ∷ entry w 8 ∷ entry w 9 ∷ entry w 10 ∷ entry w 11 ∷ entry w 12 ∷ []
