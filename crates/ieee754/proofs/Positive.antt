-- The square root of a float above zero and below infinity is `root_of` of its size in units (`root_of_value`), what such a float's bits are (`word_range`), and the roots of the other floats.
use Rattle.std.proofs.Common.{◌≡◌, ℕ, zero, suc, ◌+◌, ◌-◌, ◌*◌, ◌/◌, ◌%◌, ◌^◌, ◌<◌, ◌≤◌, true, false, ◌&&◌, T, eqb, ltb, leb, ℤ, pos, sym, refl, ap, ◌∙◌, ⊎_elim, true≢false, le_of_eq, lt_of_lt_of_le, lt_of_le_of_lt, lt_irrefl, zero-lt-suc, add_comm, mul_assoc, div-lt_iff_lt-mul, eq-zero-or-pos, mul-lt-mul_of_pos_right, mul-pos, zero-add, zero-mul, mul_right_comm, not-le_of_lt, mul-div_cancel, arith, ltb→lt, pow_pos, pow-add, ltb-false, ltb-true}
use mathlib.Core.Bool.{false≢true}
use lib.Ieee.{Float, nan, inf, fin, binary32, up, down, size, lt, ne, div, fits, of_bits, to_bits}
use lib.Ieee.Digits.{size-le}
use lib.Ieee.Fits.{kept-lt, up_pos, down_pos, and_r}
use lib.Ieee.Exact.{HasValue}
use lib.Ieee.Positive.{positive}
use lib.Ieee.Bits.{of_bits-to_bits}
use lib.Ieee.Compare.{differs_from_itself}
use Rattle.ieee754.specs.Root.{root_of, square_root}
use Rattle.ieee754.proofs.Patterns.{low_value, high_value}

-- the root of a float of n units of 2 ^ -149
pub root_of_value : (x : Float) (n : ℕ) → 0 < n → HasValue x false n (2 ^ 149) → square_root binary32 x ≡ root_of binary32 (n * 2 ^ 149)
unfolding square_root
root_of_value nan n N v = elim v [ ]
root_of_value (inf s) n N v = elim v [ ]
root_of_value (fin true m e) n N v = absurd (true≢false v.0)
root_of_value (fin false zero e) n N v = absurd (lt_irrefl 0 (lt_of_lt_of_le (mul-pos N (down_pos e)) (le_of_eq (sym v.1 ∙ ap (λ (x : ℕ). x * 2 ^ 149) (zero-mul (up e)) ∙ zero-mul (2 ^ 149)))))
root_of_value (fin false (suc m) e) n N v =
    ap (λ (w : ℕ). root_of binary32 (w / down e))
    (sym (mul_assoc (suc m * up e) (2 ^ 149) (2 ^ 149)) ∙ ap (λ (x : ℕ). x * 2 ^ 149) v.1 ∙ mul_right_comm n (down e) (2 ^ 149))
    ∙ ap (root_of binary32) (mul-div_cancel (n * 2 ^ 149) (down_pos e))

-- ---- the bits of a float above zero and below infinity

-- the largest such float has 277 digits in units
finite_size : (m : ℕ) (e : ℤ) → T (fits binary32 (fin false (suc m) e)) → suc m * up e * 2 ^ 149 / down e < 2 ^ 277
unfolding fits
finite_size m e h = (div-lt_iff_lt-mul (down_pos e)).1
    (lt_of_lt_of_le (mul-lt-mul_of_pos_right (ltb→lt (suc m * up e) (2 ^ 128 * down e) (and_r (eqb (suc m % 2) 1 && ltb (suc m) (2 ^ 24) && leb (down e) (2 ^ 149)) (ltb (suc m * up e) (2 ^ 128 * down e)) h)) (pow_pos 149))
    (le_of_eq (mul_right_comm (2 ^ 128) (down e) (2 ^ 149))))

to_bits_is : (m : ℕ) (e : ℤ) → to_bits binary32 (fin false m e) ≡ (let n = m * up e * 2 ^ 149 / down e in (size n - 24) * 2 ^ 23 + n / 2 ^ (size n - 24))
unfolding to_bits
to_bits_is m e = rw zero-add

-- below infinity's
finite_word : (m : ℕ) (e : ℤ) → T (fits binary32 (fin false (suc m) e)) → to_bits binary32 (fin false (suc m) e) < 0x7f80_0000
finite_word m e h =
    let n = suc m * up e * 2 ^ 149 / down e in
    lt_of_le_of_lt (le_of_eq (to_bits_is (suc m) e)) (omega (arith, size-le n 277 (finite_size m e h), kept-lt 24 n))

-- and not zero's
above_zero : (m : ℕ) (e : ℤ) → T (fits binary32 (fin false (suc m) e)) → 0 < to_bits binary32 (fin false (suc m) e)
unfolding of_bits
above_zero m e h = ⊎_elim (λ z. absurd (nonzero (sym (of_bits-to_bits binary32 (fin false (suc m) e) h) ∙ ap (of_bits binary32) z))) (λ g. g) (eq-zero-or-pos (to_bits binary32 (fin false (suc m) e)))
  where
    nonzero : fin false (suc m) e ≡ fin false 0 (pos 0) → ⊥
    nonzero q = let z : ◌≡◌ {A = ℕ} (suc m) 0 = cc in omega arith

pub word_range : (x : Float) → T (positive x) → T (fits binary32 x) → (0 < to_bits binary32 x) × (to_bits binary32 x < 0x7f80_0000)
word_range nan p h = absurd p
word_range (inf s) p h = absurd p
word_range (fin true m e) p h = absurd p
word_range (fin false zero e) p h = absurd (lt_irrefl 0 (ltb→lt 0 0 p))
word_range (fin false (suc m) e) p h = (above_zero m e h, finite_word m e h)

-- ---- the roots of the other floats

pub nan_root : (x : Float) → ne x x ≡ true → x ≡ square_root binary32 x
unfolding square_root
nan_root x p = rw (differs_from_itself x (rw p tt))

pub negative_root : (x : Float) → lt x (of_bits binary32 0) ≡ true → nan ≡ square_root binary32 x
unfolding of_bits lt square_root
negative_root nan p = refl
negative_root (inf true) p = refl
negative_root (inf false) p = absurd (false≢true p)
negative_root (fin true zero e) p = absurd (lt_irrefl 0 (omega (arith, ltb-true 0 (0 * up e * 1 + 0 * down e) p)))
negative_root (fin true (suc m) e) p = refl
negative_root (fin false m e) p = absurd (lt_irrefl 0 (omega (arith, ltb-true (m * up e * 1) (0 * down e) p)))

pub negative_made : (x : Float) → lt x (of_bits binary32 0) ≡ true → div binary32 (of_bits binary32 0) (of_bits binary32 0) ≡ square_root binary32 x
unfolding div of_bits
negative_made x p = negative_root x p

-- infinity and -0.0, which alone are left from infinity's bits on
pub last_root : (x : Float) → T (fits binary32 x) → 0x7f80_0000 ≤ to_bits binary32 x → lt x (of_bits binary32 0) ≡ false → x ≡ square_root binary32 x
unfolding of_bits lt square_root
last_root nan h p q = refl
last_root (inf true) h p q = absurd (true≢false q)
last_root (inf false) h p q = refl
last_root (fin s zero e) h p q = refl
last_root (fin true (suc m) e) h p q = absurd (lt_irrefl 0 (omega (arith, mul-pos (zero-lt-suc m) (up_pos e), ltb-false 0 (suc m * up e * 1 + 0 * down e) q)))
last_root (fin false (suc m) e) h p q = absurd (not-le_of_lt (finite_word m e h) p)

-- ---- the root of a float that binary32 holds, by its word

zero_by_word : (b : ℕ) → b ≡ 0 → of_bits binary32 0 ≡ square_root binary32 (of_bits binary32 b)
unfolding square_root of_bits
zero_by_word b z = rw z

module _ (x : Float) (h : T (fits binary32 x)) where
  from_word : (r : Float) → r ≡ square_root binary32 (of_bits binary32 (to_bits binary32 x)) → r ≡ square_root binary32 x
  from_word r e = e ∙ ap (square_root binary32) (of_bits-to_bits binary32 x h)

  -- a normal float above zero: its digits t, its exponent's field y, and the units of its value
  pub normal_root : 2 ^ 23 ≤ to_bits binary32 x → to_bits binary32 x < 0x7f80_0000
      → root_of binary32 ((to_bits binary32 x % 2 ^ 23 + 2 ^ 23) * 2 ^ (to_bits binary32 x / 2 ^ 23 + 125 + 23)) ≡ square_root binary32 x
  normal_root lo hi = from_word _ (by_word (to_bits binary32 x) lo hi)
    where
      scale : (t y : ℕ) → 0 < y → (t + 2 ^ 23) * 2 ^ (y + 125 + 23) ≡ (2 ^ 23 + t) * 2 ^ (y - 1) * 2 ^ 149
      scale t y p =
          ap (λ (z : ℕ). z * 2 ^ (y + 125 + 23)) (add_comm t (2 ^ 23))
          ∙ ap (λ (z : ℕ). (2 ^ 23 + t) * z) (ap (λ (z : ℕ). 2 ^ z) (omega arith) ∙ pow-add 2 (y - 1) 149)
          ∙ sym (mul_assoc (2 ^ 23 + t) (2 ^ (y - 1)) (2 ^ 149))

      by_word : (b : ℕ) → 2 ^ 23 ≤ b → b < 0x7f80_0000 → root_of binary32 ((b % 2 ^ 23 + 2 ^ 23) * 2 ^ (b / 2 ^ 23 + 125 + 23)) ≡ square_root binary32 (of_bits binary32 b)
      by_word b l g =
          ap (root_of binary32) (scale (b % 2 ^ 23) (b / 2 ^ 23) (omega arith))
          ∙ sym (root_of_value (of_bits binary32 b) ((2 ^ 23 + b % 2 ^ 23) * 2 ^ (b / 2 ^ 23 - 1)) (mul-pos (omega arith) (pow_pos (b / 2 ^ 23 - 1))) (high_value b l g))

  -- 0.0
  pub zero_root : to_bits binary32 x ≡ 0 → of_bits binary32 0 ≡ square_root binary32 x
  zero_root e = from_word _ (zero_by_word (to_bits binary32 x) e)

  -- a subnormal float above zero
  pub small_root : 0 < to_bits binary32 x → to_bits binary32 x < 2 ^ 23 → root_of binary32 (to_bits binary32 x * 2 ^ 149) ≡ square_root binary32 x
  small_root p g = from_word _ (sym (root_of_value (of_bits binary32 (to_bits binary32 x)) (to_bits binary32 x) p (low_value (to_bits binary32 x) g)))
