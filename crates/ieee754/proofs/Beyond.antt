-- x % (2.0 * PI) by whole numbers. From 4.0 on x is M * 2 ^ k units of 2 ^ -21, M being its 24 digits, and 2.0 * PI is 13176795 of them.
use Rattle.std.proofs.Common.{mul-pos, ◌⊎◌, inl, inr, ⊎_elim, true≢false, mod-lt, le_of_lt, ◌≡◌, ℕ, zero, suc, ◌+◌, ◌-◌, ◌*◌, ◌/◌, ◌%◌, ◌^◌, ◌<◌, ◌≤◌, Bool, true, false, not, T, leb, pos, sym, refl, ap, ◌∙◌, subst, lt_of_lt_of_le, mod-eq_of_lt, mul_assoc, mul-one, arith, lit<, lit≤, pow_pos, pow_mono, pow-add, shl_lt, ne_eqb}
use native.Mathlib.Decide.{dec_lt}
use native.Mathlib.Nat.{mul-mul-mul_comm}
use lib.Dec.{eqb-suc-zero}
use Rattle.std.proofs.lemmas.Nat.{mul-mod_first}
use borrow.Author.Tests.{lt-leb, le-leb}
use lib.Ieee.{Float, nan, inf, fin, binary32, up, down, round, odd, neg, mul, div, of_int, rem, fits, of_fields, of_bits, to_bits}
use lib.Ieee.Back.{round_whole}
use lib.Ieee.Bits.{of_bits-to_bits, of_bits-fits, to_bits-lt}
use lib.Ieee.Exact.{HasValue, odd_sign, round_exact}
use lib.Ieee.Fits.{down_pos, rem-fits, mul-fits, neg-fits}
use Rattle.ieee754.proofs.Same.{value_same}
use Rattle.ieee754.specs.Remainder.{tau}
use Rattle.ieee754.proofs.Fractions.{scale_mod}
use Rattle.ieee754.proofs.RemainderLaws.{rem_exact}
use Rattle.ieee754.proofs.Values.{rescale}

-- ---- a word's value, in units of 2 ^ -149

fields : (b : ℕ) → of_bits binary32 b ≡ of_fields binary32 (leb (2 ^ 31) b) (b % 2 ^ 31 / 2 ^ 23) (b % 2 ^ 23)
unfolding of_bits
fields b = refl

no_exponent : (s : Bool) (t : ℕ) → of_fields binary32 s 0 t ≡ odd 24 s t 0 149
unfolding of_fields
no_exponent s t = refl

exponent : (s : Bool) (x t : ℕ) → suc x < 255 → of_fields binary32 s (suc x) t ≡ odd 24 s (2 ^ 23 + t) x 149
unfolding of_fields
exponent s x t h = rw (ne_eqb (suc x) 255 (λ (e : suc x ≡ 255). omega arith))

low_value : (b : ℕ) → b % 2 ^ 31 < 2 ^ 23 → HasValue (of_bits binary32 b) (leb (2 ^ 31) b) (b % 2 ^ 23) (2 ^ 149)
low_value b h =
    let s = leb (2 ^ 31) b in
    let t = b % 2 ^ 23 in
    let none : b % 2 ^ 31 / 2 ^ 23 ≡ 0 = omega arith in
    let is : of_bits binary32 b ≡ odd 24 s t 0 149 = fields b ∙ ap (λ (z : ℕ). of_fields binary32 s z t) none ∙ no_exponent s t in
    subst (λ (v : Float). HasValue v s t (2 ^ 149)) (sym is) (subst (λ (n : ℕ). HasValue (odd 24 s t 0 149) s n (2 ^ 149)) (mul-one t) (odd_sign 24 s t 0 149))

high_value : (b : ℕ) → 2 ^ 23 ≤ b % 2 ^ 31 → b % 2 ^ 31 < 0x7f80_0000 → HasValue (of_bits binary32 b) (leb (2 ^ 31) b) ((2 ^ 23 + b % 2 ^ 23) * 2 ^ (b % 2 ^ 31 / 2 ^ 23 - 1)) (2 ^ 149)
high_value b l h =
    let s = leb (2 ^ 31) b in
    let x = b % 2 ^ 31 / 2 ^ 23 - 1 in
    let t = b % 2 ^ 23 in
    let next : b % 2 ^ 31 / 2 ^ 23 ≡ suc x = omega arith in
    let is : of_bits binary32 b ≡ odd 24 s (2 ^ 23 + t) x 149 = fields b ∙ ap (λ (z : ℕ). of_fields binary32 s z t) next ∙ exponent s x t (omega arith) in
    subst (λ (v : Float). HasValue v s ((2 ^ 23 + t) * 2 ^ x) (2 ^ 149)) (sym is) (odd_sign 24 s (2 ^ 23 + t) x 149)

tau_value : HasValue tau false (13176795 * 2 ^ 128) (2 ^ 149)
unfolding of_bits
tau_value = (refl, refl)

-- ---- the rest of a value

rest_value : (x : Float) (s : Bool) (a : ℕ) → T (fits binary32 x) → HasValue x s a (2 ^ 149) → HasValue (rem binary32 x tau) s (a % (13176795 * 2 ^ 128)) (2 ^ 149)
rest_value x s a X v =
    rem_exact {f = binary32} {x = x} {y = tau} {s = s} {t = false} {a = a} {b = 13176795 * 2 ^ 128} {c = 2 ^ 149}
    (record { x_fits = X; y_fits = of_bits-fits binary32 0x40c9_0fdb; x_value = v; y_value = tau_value; y_not_zero = lit< tt; c_not_zero = pow_pos 149 })

-- whatever has the rest's value is the rest
same_rest : (x v : Float) (s : Bool) (a r : ℕ) → T (fits binary32 x) → T (fits binary32 v) → HasValue x s a (2 ^ 149) → HasValue v s r (2 ^ 149) → r ≡ a % (13176795 * 2 ^ 128) → v ≡ rem binary32 x tau
same_rest x v s a r X V p q e =
    value_same binary32 v (rem binary32 x tau) s r (2 ^ 149) (pow_pos 149) V (rem-fits binary32 x tau X) q
    (subst (λ (n : ℕ). HasValue (rem binary32 x tau) s n (2 ^ 149)) (sym e) (rest_value x s a X p))

small_rest : (x : Float) (s : Bool) (a : ℕ) → T (fits binary32 x) → HasValue x s a (2 ^ 149) → a < 2 ^ 151 → x ≡ rem binary32 x tau
small_rest x s a X v h = same_rest x x s a a X X v v (sym (mod-eq_of_lt (lt_of_lt_of_le h (lit≤ tt))))

-- ---- the three kinds of words

-- below 4.0
pub below_four : (x : Float) (b : ℕ) → T (fits binary32 x) → of_bits binary32 b ≡ x → b % 2 ^ 31 < 0x4080_0000 → x ≡ rem binary32 x tau
below_four x b X e h = either (dec_lt (b % 2 ^ 31) (2 ^ 23))
  where
    by_value : (a : ℕ) → a < 2 ^ 151 → HasValue (of_bits binary32 b) (leb (2 ^ 31) b) a (2 ^ 149) → x ≡ rem binary32 x tau
    by_value a A v = small_rest x (leb (2 ^ 31) b) a X (subst (λ (z : Float). HasValue z (leb (2 ^ 31) b) a (2 ^ 149)) e v) A

    either : Dec (b % 2 ^ 31 < 2 ^ 23) → x ≡ rem binary32 x tau
    either (yes l) = by_value (b % 2 ^ 23) (lt_of_lt_of_le (mod-lt b (pow_pos 23)) (lit≤ tt)) (low_value b l)
    either (no l) =
        let k = b % 2 ^ 31 / 2 ^ 23 - 1 in
        by_value ((2 ^ 23 + b % 2 ^ 23) * 2 ^ k)
        (lt_of_lt_of_le (shl_lt 24 k (omega (arith, mod-lt b (pow_pos 23)))) (pow_mono {i = 24 + k} {j = 151} (omega arith)))
        (high_value b (omega arith) (lt_of_lt_of_le h (lit≤ tt)))

-- no finite float
no_number : (s : Bool) (t : ℕ) → (of_fields binary32 s 255 t ≡ inf s) ⊎ (of_fields binary32 s 255 t ≡ nan)
unfolding of_fields
no_number s zero = inl refl
no_number s (suc t) = inr (rw (eqb-suc-zero t))

no_rest : (x : Float) (s : Bool) → (x ≡ inf s) ⊎ (x ≡ nan) → nan ≡ rem binary32 x tau
unfolding rem
no_rest x s (inl e) = rw e
no_rest x s (inr e) = rw e

pub beyond_infinity : (x : Float) (b : ℕ) → b < 2 ^ 32 → of_bits binary32 b ≡ x → 0x7f80_0000 ≤ b % 2 ^ 31 → nan ≡ rem binary32 x tau
beyond_infinity x b B e h =
    let s = leb (2 ^ 31) b in
    let t = b % 2 ^ 23 in
    let all : b % 2 ^ 31 / 2 ^ 23 ≡ 255 = omega (arith, mod-lt b (pow_pos 31)) in
    let is : x ≡ of_fields binary32 s 255 t = sym e ∙ fields b ∙ ap (λ (z : ℕ). of_fields binary32 s z t) all in
    no_rest x s (⊎_elim (λ p. inl (is ∙ p)) (λ p. inr (is ∙ p)) (no_number s t))

-- from 4.0 on: any v that has the value of the rest in units of 2 ^ -21
pub from_four : (x v : Float) (b r : ℕ) → T (fits binary32 x) → T (fits binary32 v) → of_bits binary32 b ≡ x → 0x4080_0000 ≤ b % 2 ^ 31 → b % 2 ^ 31 < 0x7f80_0000
    → r ≡ (b % 2 ^ 31 % 2 ^ 23 + 2 ^ 23) * 2 ^ (b % 2 ^ 31 / 2 ^ 23 - 129) % 13176795
    → HasValue v (leb (2 ^ 31) b) (r * 2 ^ 128) (2 ^ 149) → v ≡ rem binary32 x tau
from_four x v b r X V e l h R q =
    let s = leb (2 ^ 31) b in
    let k = b % 2 ^ 31 / 2 ^ 23 - 129 in
    let m = b % 2 ^ 31 % 2 ^ 23 + 2 ^ 23 in
    let digits : 2 ^ 23 + b % 2 ^ 23 ≡ m = omega arith in
    let places : b % 2 ^ 31 / 2 ^ 23 - 1 ≡ k + 128 = omega arith in
    let a-is : (2 ^ 23 + b % 2 ^ 23) * 2 ^ (b % 2 ^ 31 / 2 ^ 23 - 1) ≡ m * 2 ^ k * 2 ^ 128 =
    ap (λ (z : ℕ). z * 2 ^ (b % 2 ^ 31 / 2 ^ 23 - 1)) digits ∙ ap (λ (z : ℕ). m * 2 ^ z) places ∙ ap (λ (z : ℕ). m * z) (pow-add 2 k 128) ∙ sym (mul_assoc m (2 ^ k) (2 ^ 128)) in
    let value : HasValue x s (m * 2 ^ k * 2 ^ 128) (2 ^ 149) =
    subst (λ (z : Float). HasValue z s (m * 2 ^ k * 2 ^ 128) (2 ^ 149)) e (subst (λ (a : ℕ). HasValue (of_bits binary32 b) s a (2 ^ 149)) a-is (high_value b (omega arith) h)) in
    same_rest x v s (m * 2 ^ k * 2 ^ 128) (r * 2 ^ 128) X V value q (ap (λ (z : ℕ). z * 2 ^ 128) R ∙ sym (scale_mod (m * 2 ^ k) 13176795 (2 ^ 128) (lit< tt) (pow_pos 128)))

-- ---- r units of 2 ^ -21 as a float

negated : (v : Float) (a c : ℕ) → HasValue v false a c → HasValue (neg v) true a c
unfolding neg
negated nan a c h = elim h [ ]
negated (inf s) a c h = elim h [ ]
negated (fin s m e) a c h = (ap not h.0, h.1)

-- times 2 ^ -21
scaled : (x : Float) (r : ℕ) → r < 2 ^ 24 → HasValue x false r 1 → HasValue (mul binary32 x (of_bits binary32 0x3500_0000)) false (r * 2 ^ 128) (2 ^ 149)
unfolding mul of_bits
scaled nan r R h = elim h [ ]
scaled (inf s) r R h = elim h [ ]
scaled (fin true m e) r R h = absurd (true≢false h.0)
scaled (fin false m e) r R h =
    let size : m * up e * 1 ≡ r * down e = h.1 in
    let same : m * up e * 1 * 2 ^ 149 ≡ r * 2 ^ 128 * (down e * 2 ^ 21) = ap (λ (z : ℕ). z * 2 ^ 149) size ∙ mul-mul-mul_comm r (down e) (2 ^ 128) (2 ^ 21) in
    let den : 0 < down e * 2 ^ 21 = mul-pos (down_pos e) (pow_pos 21) in
    rescale (round binary32 false (m * up e * 1) (down e * 2 ^ 21)) false (m * up e * 1) (down e * 2 ^ 21) (r * 2 ^ 128) (2 ^ 149) den same
    (round_exact binary32 false (m * up e * 1) (down e * 2 ^ 21) r 128 den R (lt_of_lt_of_le (shl_lt 24 128 R) (lit≤ tt)) same)

pub units_of : (r : ℕ) → r < 13176795 → HasValue (mul binary32 (of_int binary32 (pos r)) (of_bits binary32 0x3500_0000)) false (r * 2 ^ 128) (2 ^ 149)
unfolding of_int
units_of r h =
    let less : r < 2 ^ 24 = lt_of_lt_of_le h (lit≤ tt) in
    scaled (of_int binary32 (pos r)) r less (round_whole binary32 false r (le_of_lt less))

-- ---- a doubling more
pub doubled_rest : (m k n r : ℕ) → r ≡ m * 2 ^ k % n → r * 2 % n ≡ m * 2 ^ (k + 1) % n
doubled_rest m k n r e =
    ap (λ (z : ℕ). z * 2 % n) e ∙ mul-mod_first (m * 2 ^ k) 2 n ∙ ap (λ (z : ℕ). z % n) (mul_assoc m (2 ^ k) 2 ∙ ap (λ (z : ℕ). m * z) (sym (pow-add 2 k 1)))

-- ---- with b the word of x

module _ (x : Float) (b : ℕ) (X : T (fits binary32 x)) (word : b ≡ to_bits binary32 x) where
  read : of_bits binary32 b ≡ x
  read = ap (of_bits binary32) word ∙ of_bits-to_bits binary32 x X

  pub rest_below_four : b % 2 ^ 31 < 0x4080_0000 → x ≡ rem binary32 x tau
  rest_below_four = below_four x b X read

  pub no_rest_beyond : 0x7f80_0000 ≤ b % 2 ^ 31 → div binary32 (of_bits binary32 0) (of_bits binary32 0) ≡ rem binary32 x tau
  unfolding div of_bits
  no_rest_beyond = beyond_infinity x b (subst (λ (z : ℕ). z < 2 ^ 32) (sym word) (to_bits-lt binary32 x X)) read

  module _ (r : ℕ) (from : 0x4080_0000 ≤ b % 2 ^ 31) (to : b % 2 ^ 31 < 0x7f80_0000) (R : r ≡ (b % 2 ^ 31 % 2 ^ 23 + 2 ^ 23) * 2 ^ (b % 2 ^ 31 / 2 ^ 23 - 129) % 13176795) (less : r < 13176795) where
    abbrev pub units : Float
    units = mul binary32 (of_int binary32 (pos r)) (of_bits binary32 0x3500_0000)

    pub positive_rest : b < 2 ^ 31 → units ≡ rem binary32 x tau
    positive_rest h =
        from_four x units b r X (mul-fits binary32 (of_int binary32 (pos r)) (of_bits binary32 0x3500_0000)) read from to R
        (subst (λ (s : Bool). HasValue units s (r * 2 ^ 128) (2 ^ 149)) (sym (lt-leb (2 ^ 31) b h)) (units_of r less))

    pub negative_rest : 2 ^ 31 ≤ b → neg units ≡ rem binary32 x tau
    negative_rest h =
        from_four x (neg units) b r X (neg-fits binary32 units (mul-fits binary32 (of_int binary32 (pos r)) (of_bits binary32 0x3500_0000))) read from to R
        (subst (λ (s : Bool). HasValue (neg units) s (r * 2 ^ 128) (2 ^ 149)) (sym (le-leb (2 ^ 31) b h)) (negated units (r * 2 ^ 128) (2 ^ 149) (units_of r less)))
