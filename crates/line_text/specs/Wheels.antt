-- The wheel speeds of a tick's line, as bytes in ASCII (docs/RULES.md, 'The lines of drive').
use Rattle.std.specs.Prelude.{ℕ, zero, suc, ◌+◌, ◌/◌, ◌%◌, if◌then◌else◌, List, [], ◌∷◌, ◌++◌, nat_lt, Float}
use Rattle.std.specs.Float.{binary32}
use Rattle.std.specs.Float.Ieee.{to_bits}
use Rattle.linear.specs.declared.Vector4f.{Vector4f}
use Rattle.line_text.specs.Pieces.{field}

-- a hexadecimal digit: `0` to `9`, then `a` to `f`
abbrev pub hex_digit : ℕ → ℕ
hex_digit d = if nat_lt d 10 then 48 + d else 87 + d

-- the last k hexadecimal digits of n
abbrev pub hex_digits : ℕ → ℕ → List ℕ
hex_digits zero n = []
hex_digits (suc k) n = hex_digits k (n / 16) ++ (hex_digit (n % 16) ∷ [])

-- a float's bits as 8 lower-case hexadecimal digits
unfoldable pub hex : Float → List ℕ
hex x = hex_digits 8 (to_bits binary32 x)

-- four wheel speeds
abbrev pub wheels_text : Vector4f → List ℕ
wheels_text v = field (hex v.x) ++ field (hex v.y) ++ field (hex v.z) ++ field (hex v.w)
