-- What each operation answers to an argument, both by their bits.
use Rattle.std.specs.Prelude.{ℕ, Float}
use Rattle.std.specs.Float.{binary32}
use Rattle.std.specs.Float.Ieee.{add, sub, to_bits, of_bits}
use Rattle.ieee754.specs.Root.{square_root}
use Rattle.ieee754.specs.Remainder.{remainder_by, tau}

abbrev pub square_root_of : Float → Float
square_root_of x = square_root binary32 x

abbrev pub remainder_of : Float → Float
remainder_of x = remainder_by binary32 x tau

-- the float of a word, for its word again
abbrev pub itself : Float → Float
itself x = x

abbrev pub twice : Float → Float
twice x = add binary32 x x

abbrev pub difference : Float → Float
difference x = sub binary32 x x

-- the answer of an operation that makes value x of x
abbrev pub answer_of : (Float → Float) → ℕ → ℕ
answer_of value w = to_bits binary32 (value (of_bits binary32 w))
