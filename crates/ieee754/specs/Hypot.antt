-- The hypotenuse, step by step, each step rounded to binary32 (docs/RULES.md, 'The hypotenuse').
use Rattle.std.specs.Prelude.{◌+◌, ◌*◌, ◌^◌, Bool, false, true, if◌then◌else◌, ◌||◌, nat_le, Float}
use Rattle.std.specs.Float.{nan, inf, fin, binary32}
use Rattle.std.specs.Float.Ieee.{add, mul, lt, le, eq, is_nan, to_bits, of_bits}
use Rattle.ieee754.specs.Magnitude.{magnitude}
use Rattle.ieee754.specs.Root.{square_root}

abbrev pub is_inf : Float → Bool
is_inf nan = false
is_inf (inf s) = true
is_inf (fin s m e) = false

-- the powers of two that are written by their bits
abbrev pub two⁶⁰ : Float
two⁶⁰ = of_bits binary32 0x5d80_0000

abbrev pub two⁻⁶⁰ : Float
two⁻⁶⁰ = of_bits binary32 0x2180_0000

abbrev pub two⁹⁰ : Float
two⁹⁰ = of_bits binary32 0x6c80_0000

abbrev pub two⁻⁹⁰ : Float
two⁻⁹⁰ = of_bits binary32 0x1280_0000

-- the larger and the smaller of two numbers
unfoldable pub larger : Float → Float → Float
larger p q = if lt p q then q else p

unfoldable pub smaller : Float → Float → Float
smaller p q = if lt q p then q else p

-- the root of a * a + b * b
unfoldable pub root_of_squares : Float → Float → Float
root_of_squares a b = square_root binary32 (add binary32 (mul binary32 a a) (mul binary32 b b))

-- the same with both scaled by k, and scaled back by l
unfoldable pub scaled_root : Float → Float → Float → Float → Float
scaled_root k l a b = mul binary32 (root_of_squares (mul binary32 a k) (mul binary32 b k)) l

-- b is zero, or too small beside a to count: their bits differ by at least 25 * 2 ^ 23
unfoldable pub outweighs : Float → Float → Bool
outweighs a b = eq b (of_bits binary32 0) || nat_le (to_bits binary32 b + 25 * 2 ^ 23) (to_bits binary32 a)

-- a and b are the larger and the smaller magnitude
unfoldable pub hypot_of : Float → Float → Float
hypot_of a b =
    if outweighs a b then add binary32 a b
    else (if le two⁶⁰ a then scaled_root two⁻⁹⁰ two⁹⁰ a b
    else (if lt b two⁻⁶⁰ then scaled_root two⁹⁰ two⁻⁹⁰ a b
    else root_of_squares a b))

-- +infinity if either is infinite, else NaN if either is NaN
unfoldable pub hypotenuse : Float → Float → Float
hypotenuse x y =
    if is_inf x || is_inf y then inf false
    else (if is_nan x || is_nan y then nan
    else (let p = magnitude x in
    let q = magnitude y in
    hypot_of (larger p q) (smaller p q)))
