-- Laws of the magnitude: what it keeps of a float, and its word.
use mathlib.Core.Path.{◌≡◌, refl}
use Prim.Native.Nat.{ℕ, zero, suc, ◌+◌, ◌%◌}
use native.Mathlib.Omega.{arith}
use mathlib.Core.Bool.{true, false, not}
use lib.Dec.{T}
use lib.IntN.{ℤ}
use lib.Ieee.{Float, nan, inf, fin, Format, binary32, fits, is_nan, ne, neg, nan_bits, of_bits, to_bits}
use lib.Ieee.Bits.{of_bits-to_bits, to_bits-lt}
use lib.Ieee.Compare.{differs_from_itself}
use lib.Ieee.Fits.{neg-fits}
use Rattle.ieee754.specs.Magnitude.{magnitude}
use Rattle.ieee754.proofs.Words.{equal_number, number_word}

-- only NaN's magnitude is NaN
pub magnitude-nan : (x : Float) → is_nan (magnitude x) ≡ is_nan x
unfolding magnitude is_nan
magnitude-nan nan = refl
magnitude-nan (inf s) = refl
magnitude-nan (fin s m e) = refl

-- a format that holds a float holds its magnitude
pub magnitude-fits : (f : Format) (x : Float) → T (fits f x) → T (fits f (magnitude x))
unfolding magnitude fits
magnitude-fits f nan h = h
magnitude-fits f (inf s) h = h
magnitude-fits f (fin s zero e) h = h
magnitude-fits f (fin s (suc m) e) h = h

-- of two floats that differ in their sign alone, the negative one has the larger word, by the sign's bit
negative_word : (m : ℕ) (e : ℤ) → to_bits binary32 (fin true m e) ≡ 0x8000_0000 + to_bits binary32 (fin false m e)
unfolding to_bits
negative_word m e = omega arith

-- a magnitude's word is the float's word without the sign's bit
pub magnitude_word : (x : Float) → T (fits binary32 x) → to_bits binary32 x % 0x8000_0000 ≡ to_bits binary32 (magnitude x)
unfolding magnitude
magnitude_word nan h = unfold to_bits in refl
magnitude_word (inf true) h = unfold to_bits in refl
magnitude_word (inf false) h = unfold to_bits in refl
magnitude_word (fin true m e) h = omega (arith, negative_word m e, to_bits-lt binary32 (fin true m e) h)
magnitude_word (fin false m e) h = omega (arith, negative_word m e, to_bits-lt binary32 (fin true m e) (unfold neg in neg-fits binary32 (fin false m e) h))

-- the float's word without the sign's bit is read as its magnitude
pub magnitude_read : (x : Float) → T (fits binary32 x) → of_bits binary32 (to_bits binary32 x % 0x8000_0000) ≡ magnitude x
magnitude_read x h = rw (magnitude_word x h) (of_bits-to_bits binary32 (magnitude x) (magnitude-fits binary32 x h))

-- what differs from itself is its own magnitude
pub nan_magnitude : (x : Float) → ne x x ≡ true → magnitude x ≡ x
unfolding magnitude
nan_magnitude x e = rw (differs_from_itself x (rw e tt))

-- the float's word without the sign's bit is no NaN's, where the float equals itself
pub magnitude_number : (x : Float) → T (fits binary32 x) → ne x x ≡ false → T (not (nan_bits binary32 (to_bits binary32 x % 0x8000_0000)))
magnitude_number x h e = number_word _ _ (magnitude_read x h) (rw magnitude-nan (equal_number x e))
