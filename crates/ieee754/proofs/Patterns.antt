-- The bits of a value above zero, and the value of such bits, in units of 2 ^ -149.
use Rattle.std.proofs.Common.{◌≡◌, ℕ, suc, ◌+◌, ◌-◌, ◌*◌, ◌/◌, ◌%◌, ◌^◌, ◌<◌, ◌≤◌, true, false, not, T, ℤ, sym, refl, ap, ◌∙◌, subst, true≢false, le_trans, le_of_eq, lt_of_lt_of_le, mul-le-mul_right, mod-eq_of_lt, zero-add, mul-one, mul-div_cancel, arith, lit≤, pow_pos, pow-add, shl_lt, ne_eqb}
use native.Mathlib.Nat.{div-eq_of_lt}
use borrow.Author.Tests.{lt-leb}
use lib.Arith.{le→nltb}
use lib.Ieee.{Float, nan, inf, fin, binary32, up, down, size, odd, fits, nan_bits, of_fields, of_bits, to_bits}
use lib.Ieee.Fits.{down_pos}
use lib.Ieee.Exact.{HasValue, odd_sign}
use lib.Ieee.Bits.{of_bits-to_bits, nan_bits_above}
use Rattle.ieee754.proofs.Rounded.{digits_beyond}

-- the bits of a value of n units
to_bits_of : (m : ℕ) (e : ℤ) (n : ℕ) → m * up e * 2 ^ 149 ≡ n * down e → to_bits binary32 (fin false m e) ≡ (size n - 24) * 2 ^ 23 + n / 2 ^ (size n - 24)
unfolding to_bits
to_bits_of m e n h =
    ap (λ (x : ℕ). 0 + (size x - 24) * 2 ^ 23 + x / 2 ^ (size x - 24)) (ap (λ (x : ℕ). x / down e) h ∙ mul-div_cancel n (down_pos e))
    ∙ rw zero-add

-- a value of u * 2 ^ k units, u having 24 digits, is the value of its bits
pub normal_bits : (r : Float) (u k : ℕ) → T (fits binary32 r) → HasValue r false (u * 2 ^ k) (2 ^ 149) → 2 ^ 23 ≤ u → u < 2 ^ 24 → r ≡ of_bits binary32 (k * 2 ^ 23 + u)
normal_bits nan u k F v lo hi = elim v [ ]
normal_bits (inf s) u k F v lo hi = elim v [ ]
normal_bits (fin true m e) u k F v lo hi = absurd (true≢false v.0)
normal_bits (fin false m e) u k F v lo hi =
    let n = u * 2 ^ k in
    let k-is : size n - 24 ≡ k = digits_beyond 23 n k (le_trans (le_of_eq (pow-add 2 23 k)) (mul-le-mul_right (2 ^ k) lo)) (shl_lt 24 k hi) in
    sym (of_bits-to_bits binary32 (fin false m e) F)
    ∙ ap (of_bits binary32)
    (to_bits_of m e n v.1 ∙ ap (λ (x : ℕ). x * 2 ^ 23 + n / 2 ^ x) k-is ∙ ap (λ (x : ℕ). k * 2 ^ 23 + x) (mul-div_cancel u (pow_pos k)))

-- the bits below infinity's are no NaN's
pub finite_bits : (w : ℕ) → w < 0x7f80_0000 → T (not (nan_bits binary32 w))
finite_bits w h = rw nan_bits_above (le→nltb 0x7f80_0000 (w % 0x8000_0000) (omega arith))

-- ---- the value of the bits of a float above zero and below infinity, in units of 2 ^ -149

fields : (b : ℕ) → b < 0x7f80_0000 → of_bits binary32 b ≡ of_fields binary32 false (b / 2 ^ 23) (b % 2 ^ 23)
unfolding of_bits
fields b h =
    rw (lt-leb (2 ^ 31) b (omega arith))
    (ap (λ (x : ℕ). of_fields binary32 false (x / 2 ^ 23) (b % 2 ^ 23)) (mod-eq_of_lt (lt_of_lt_of_le h (lit≤ tt))))

no_exponent : (t : ℕ) → of_fields binary32 false 0 t ≡ odd 24 false t 0 149
unfolding of_fields
no_exponent t = refl

exponent : (x t : ℕ) → suc x < 255 → of_fields binary32 false (suc x) t ≡ odd 24 false (2 ^ 23 + t) x 149
unfolding of_fields
exponent x t h = rw (ne_eqb (suc x) 255 (λ (e : suc x ≡ 255). omega arith))

-- a subnormal value: the bits are the units
pub low_value : (b : ℕ) → b < 2 ^ 23 → HasValue (of_bits binary32 b) false b (2 ^ 149)
low_value b h =
    let is : of_bits binary32 b ≡ odd 24 false b 0 149 =
    fields b (lt_of_lt_of_le h (lit≤ tt)) ∙ ap (λ (x : ℕ). of_fields binary32 false x (b % 2 ^ 23)) (div-eq_of_lt h) ∙ ap (λ (x : ℕ). of_fields binary32 false 0 x) (mod-eq_of_lt h) ∙ no_exponent b in
    subst (λ (v : Float). HasValue v false b (2 ^ 149)) (sym is) (subst (λ (n : ℕ). HasValue (odd 24 false b 0 149) false n (2 ^ 149)) (mul-one b) (odd_sign 24 false b 0 149))

-- a normal one: 24 digits, and as many zeros as the exponent's field says beyond 1
pub high_value : (b : ℕ) → 2 ^ 23 ≤ b → b < 0x7f80_0000 → HasValue (of_bits binary32 b) false ((2 ^ 23 + b % 2 ^ 23) * 2 ^ (b / 2 ^ 23 - 1)) (2 ^ 149)
high_value b l h =
    let x = b / 2 ^ 23 - 1 in
    let t = b % 2 ^ 23 in
    let is : of_bits binary32 b ≡ odd 24 false (2 ^ 23 + t) x 149 =
    fields b h ∙ ap (λ (z : ℕ). of_fields binary32 false z t) (omega arith) ∙ exponent x t (omega arith) in
    subst (λ (v : Float). HasValue v false ((2 ^ 23 + t) * 2 ^ x) (2 ^ 149)) (sym is) (odd_sign 24 false (2 ^ 23 + t) x 149)
