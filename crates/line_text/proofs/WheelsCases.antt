-- A NaN's bits, worked out.
use mathlib.Core.Path.{◌≡◌, refl}
use mathlib.Core.List.{[], ◌∷◌}
use lib.Ieee.{binary32, of_bits, to_bits}
use Rattle.line_text.specs.Wheels.{hex}

-- a NaN whose own bits are ffc00001: `7fc00000`
nan : hex (of_bits binary32 0xffc0_0001) ≡ 55 ∷ 102 ∷ 99 ∷ 48 ∷ 48 ∷ 48 ∷ 48 ∷ 48 ∷ []
unfolding hex to_bits of_bits
nan = refl
