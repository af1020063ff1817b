-- Cases of the hypotenuse, each by computation, the floats by their words.
use mathlib.Core.Path.{◌≡◌, refl}
use lib.Ieee.{binary32, size, round, add, mul, lt, le, eq, is_nan, to_bits, of_bits}
use Rattle.ieee754.specs.Magnitude.{magnitude}
use Rattle.ieee754.specs.Root.{square_root, root_of, whole_root, root_digits, sticky}
use Rattle.ieee754.specs.Hypot.{hypotenuse, hypot_of, outweighs, scaled_root, root_of_squares, larger, smaller}

-- 3.0 and 4.0 give 5.0
pub hypotenuse_three_four : hypotenuse (of_bits binary32 0x4040_0000) (of_bits binary32 0x4080_0000) ≡ of_bits binary32 0x40a0_0000
unfolding hypotenuse hypot_of outweighs scaled_root root_of_squares larger smaller magnitude square_root root_of whole_root root_digits sticky size round add mul lt le eq is_nan to_bits of_bits
hypotenuse_three_four = refl

-- +infinity and NaN give +infinity, in both orders
pub hypotenuse_infinity_nan : hypotenuse (of_bits binary32 0x7f80_0000) (of_bits binary32 0x7fc0_0000) ≡ of_bits binary32 0x7f80_0000
unfolding hypotenuse is_nan of_bits
hypotenuse_infinity_nan = refl

pub hypotenuse_nan_infinity : hypotenuse (of_bits binary32 0x7fc0_0000) (of_bits binary32 0x7f80_0000) ≡ of_bits binary32 0x7f80_0000
unfolding hypotenuse is_nan of_bits
hypotenuse_nan_infinity = refl
