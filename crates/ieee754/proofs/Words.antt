-- A float and its word at binary32: each gives the other back, except that every NaN's word is written 7fc00000.
use mathlib.Core.Path.{◌≡◌, refl, sym, ap, ◌∙◌, subst}
use Prim.Native.Nat.{ℕ, ◌<◌, ◌^◌}
use mathlib.Core.Bool.{Bool, true, false, not, cond}
use lib.Dec.{T}
use lib.Ieee.{Float, nan, inf, fin, binary32, fits, is_nan, ne, nan_bits, of_bits, to_bits}
use lib.Ieee.Bits.{of_bits-to_bits, to_bits-of_bits, nan_bits_is}

-- a float that binary32 holds is read from the word that is written for it
pub written_word_read : (x : Float) → T (fits binary32 x) → of_bits binary32 (to_bits binary32 x) ≡ x
written_word_read x h = of_bits-to_bits binary32 x h

-- nan is the one value that is not a number
pub only_nan : (x : Float) → is_nan x ≡ true → x ≡ nan
unfolding is_nan
only_nan nan e = refl
only_nan (inf s) e = absurd (subst (λ (b : Bool). T (not b)) e tt)
only_nan (fin s m n) e = absurd (subst (λ (b : Bool). T (not b)) e tt)

-- what does not differ from itself is a number
pub equal_number : (x : Float) → ne x x ≡ false → T (not (is_nan x))
unfolding is_nan ne
equal_number nan e = absurd (subst T e tt)
equal_number (inf s) e = tt
equal_number (fin s m n) e = tt

-- any NaN's word is read as nan
pub nan_word_read : (w : ℕ) → nan_bits binary32 w ≡ true → of_bits binary32 w ≡ nan
nan_word_read w e = only_nan (of_bits binary32 w) (sym (nan_bits_is binary32 w) ∙ e)

-- a word that is read as a number is no NaN's
pub number_word : (w : ℕ) (x : Float) → of_bits binary32 w ≡ x → T (not (is_nan x)) → T (not (nan_bits binary32 w))
number_word w x e h = rw (nan_bits_is binary32 w, e) h

-- a word is written for the float that is read from it, and 7fc00000 for every NaN
pub read_word_written : (w : ℕ) → w < 2 ^ 32 → to_bits binary32 (of_bits binary32 w) ≡ cond (nan_bits binary32 w) 0x7fc0_0000 w
read_word_written w h = go (nan_bits binary32 w) refl
  where
    go : (b : Bool) → nan_bits binary32 w ≡ b → to_bits binary32 (of_bits binary32 w) ≡ cond b 0x7fc0_0000 w
    go true e = ap (to_bits binary32) (nan_word_read w e) ∙ unfold to_bits in refl
    go false e = to_bits-of_bits binary32 w h (rw (← nan_bits_is binary32 w, e) tt)
