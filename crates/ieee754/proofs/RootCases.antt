-- Cases of the root, each by computation, the floats by their words.
use Rattle.std.proofs.Common.{◌≡◌, true, false, refl}
use lib.Ieee.{Format, binary32, nan, inf, size, round, of_bits}
use Rattle.ieee754.specs.Root.{square_root, root_of, whole_root, root_digits, sticky}

-- the root of 2.0 is 3fb504f3
pub two : square_root binary32 (of_bits binary32 0x4000_0000) ≡ of_bits binary32 0x3fb5_04f3
unfolding square_root root_of whole_root root_digits sticky size round of_bits
two = refl

-- the root of -0.0 is itself
pub minus_zero_lem : square_root binary32 (of_bits binary32 0x8000_0000) ≡ of_bits binary32 0x8000_0000
unfolding square_root of_bits
minus_zero_lem = refl

-- the smallest float above zero, 2 ^ -149, and the largest finite one
pub smallest : square_root binary32 (of_bits binary32 0x0000_0001) ≡ of_bits binary32 0x1a35_04f3
unfolding square_root root_of whole_root root_digits sticky size round of_bits
smallest = refl

pub largest : square_root binary32 (of_bits binary32 0x7f7f_ffff) ≡ of_bits binary32 0x5f7f_ffff
unfolding square_root root_of whole_root root_digits sticky size round of_bits
largest = refl

-- the float below 1.0, whose root lies just below the midpoint of that float and 1.0
pub below_one : square_root binary32 (of_bits binary32 0x3f7f_ffff) ≡ of_bits binary32 0x3f7f_ffff
unfolding square_root root_of whole_root root_digits sticky size round of_bits
below_one = refl

-- a float below zero
pub minus_one : square_root binary32 (of_bits binary32 0xbf80_0000) ≡ nan
unfolding square_root of_bits
minus_one = refl

-- infinities, at any format
pub infinity : (f : Format) → square_root f (inf false) ≡ inf false
unfolding square_root
infinity f = refl

pub minus_infinity : (f : Format) → square_root f (inf true) ≡ nan
unfolding square_root
minus_infinity f = refl
