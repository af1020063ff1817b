-- square_root held to the standard (`root_nearest`): for a finite x above zero it is the float nearest to the root. w is x in units, and `Rooted` has the two points half a unit away from the
-- root's float. A float above it is a unit away at least (`over`), and so is one below, but for those below the start of the binade (`under`).
use Rattle.std.proofs.Common.{◌≡◌, ℕ, suc, ◌+◌, ◌-◌, ◌*◌, ◌/◌, ◌%◌, ◌^◌, ◌<◌, ◌≤◌, false, T, sym, ap, ◌∙◌, subst, le_trans, le_of_eq, le_of_lt, lt_of_lt_of_le, lt_of_le_of_lt, mul-le-mul_right, zero-lt-suc, suc-mul, mul_assoc, mul-le-mul, mul-le-mul_left, mul-lt-mul_of_pos_right, mul-pos, mul-one, lt_of_not-le, not-le_of_lt, arith, lit≤, pow_pos, pow_mono, pow-add, shl_lt}
use native.Mathlib.Nat.{mul-mul-mul_comm, mul-lt-mul_of_pos_left, lt_of_mul-lt-mul_right}
use native.Mathlib.Decide.{dec_lt}
use lib.Ieee.{Float, binary32, size, fits, of_bits, to_bits}
use lib.Ieee.Digits.{size-lt, size-le, size_reaches}
use lib.Ieee.Exact.{HasValue}
use lib.Ieee.Positive.{num, den, positive, den_pos, positive_of_value, value→cross}
use lib.Ieee.Bits.{of_bits-to_bits}
use Rattle.ieee754.specs.Root.{whole_root, square_root}
use Rattle.ieee754.specs.Laws.{InUnits, NearestRoot}
use Rattle.ieee754.proofs.Whole.{square_lt, whole_root_lem}
use Rattle.ieee754.proofs.Rounded.{root_fits}
use Rattle.ieee754.proofs.Patterns.{low_value, high_value}
use Rattle.ieee754.proofs.Normal.{Rooted, counted_root, digit_gained}
use Rattle.ieee754.proofs.Positive.{root_of_value, word_range}
use Rattle.ieee754.proofs.Values.{same_size}

-- ---- a float above zero is m * 2 ^ e units, m having at most 24 digits
record Digits (x : Float) : Type 0 where
  m : ℕ
  e : ℕ
  least : 0 < m
  most : m < 2 ^ 24
  finite : e < 254
  value : HasValue x false (m * 2 ^ e) (2 ^ 149)

digits : (x : Float) → T (positive x) → T (fits binary32 x) → Digits x
digits x p h = subst Digits (of_bits-to_bits binary32 x h) (of_word (to_bits binary32 x) (word_range x p h))
  where
    of_word : (b : ℕ) → (0 < b) × (b < 0x7f80_0000) → Digits (of_bits binary32 b)
    of_word b r = either (dec_lt b (2 ^ 23))
      where
        either : Dec (b < 2 ^ 23) → Digits (of_bits binary32 b)
        either (yes l) = record {
          m = b;
          e = 0;
          least = r.0;
          most = omega arith;
          finite = omega arith;
          value = subst (λ (n : ℕ). HasValue (of_bits binary32 b) false n (2 ^ 149)) (sym (mul-one b)) (low_value b l);
        }
        either (no l) = record {
          m = 2 ^ 23 + b % 2 ^ 23;
          e = b / 2 ^ 23 - 1;
          least = omega arith;
          most = omega arith;
          finite = omega (arith, r);
          value = high_value b (omega arith) r.1;
        }

-- from 2 ^ 23 of the units 2 ^ k on, a float is whole such units
on_grid : (w : Float) (b k : ℕ) → InUnits w b → 2 ^ 23 * 2 ^ k ≤ b → (c : ℕ) × (b ≡ c * 2 ^ k)
on_grid w b k v h =
    let d = digits w (positive_of_value w b (2 ^ 149) v.1 (lt_of_lt_of_le (mul-pos (lit≤ tt) (pow_pos k)) h)) v.0 in
    let is : b ≡ d.m * 2 ^ d.e = same_size w false false b (d.m * 2 ^ d.e) (2 ^ 149) v.1 d.value in
    let below : b < 2 ^ (24 + d.e) = lt_of_le_of_lt (le_of_eq is) (shl_lt 24 d.e d.most) in
    let most : k < suc d.e = lt_of_not-le (λ (g : suc d.e ≤ k). not-le_of_lt below (le_trans (pow_mono {i = 24 + d.e} {j = 23 + k} (omega arith)) (le_trans (le_of_eq (pow-add 2 23 k)) h))) in
    let sum : d.e ≡ d.e - k + k = omega arith in (
      d.m * 2 ^ (d.e - k),
      is ∙ ap (λ (z : ℕ). d.m * 2 ^ z) sum ∙ ap (λ (z : ℕ). d.m * z) (pow-add 2 (d.e - k) k) ∙ sym (mul_assoc d.m (2 ^ (d.e - k)) (2 ^ k)),
    )

-- ---- a float of b units beside the root of w, u units of 2 ^ suc i

-- of two whole numbers of units the larger is larger by a unit
step : (u c unit : ℕ) → u * unit < c * unit → u * unit + unit ≤ c * unit
step u c unit h = le_trans (le_of_eq (sym (suc-mul u unit))) (mul-le-mul_right unit (lt_of_mul-lt-mul_right unit h))

-- the square of a doubled number
four : (v : ℕ) → 2 * v * (2 * v) ≡ 4 * (v * v)
four v = mul-mul-mul_comm 2 v 2 v

module _ (w u i b : ℕ) (R : Rooted w u i) (grid : 2 ^ 23 * 2 ^ suc i ≤ b → (c : ℕ) × (b ≡ c * 2 ^ suc i)) where
  abbrev a : ℕ
  a = u * 2 ^ suc i

  over : a < b → 4 * w < (a + b) * (a + b)
  over h =
      let c = grid (le_trans (mul-le-mul_right (2 ^ suc i) R.least) (le_of_lt h)) in
      let next : a + 2 ^ suc i ≤ b = rw c.1 (step u c.0 (2 ^ suc i) (subst (λ (z : ℕ). a < z) c.1 h)) in
      let double : 2 * (a + 2 ^ i) ≤ a + b = omega arith in
      lt_of_lt_of_le (mul-lt-mul_of_pos_left R.above (zero-lt-suc 3)) (le_trans (le_of_eq (sym (four (a + 2 ^ i)))) (mul-le-mul double double))

  under : b < a → (a + b) * (a + b) < 4 * w
  under h = go (dec_lt b (2 ^ 23 * 2 ^ suc i)) (dec_lt (2 ^ 23) u)
    where
      a_unit : b + 2 ^ suc i ≤ a → (a + b) * (a + b) < 4 * w
      a_unit n =
          let double : a + b ≤ 2 * (a - 2 ^ i) = omega arith in
          lt_of_le_of_lt (le_trans (mul-le-mul double double) (le_of_eq (four (a - 2 ^ i)))) (mul-lt-mul_of_pos_left R.below (zero-lt-suc 3))

      go : Dec (b < 2 ^ 23 * 2 ^ suc i) → Dec (2 ^ 23 < u) → (a + b) * (a + b) < 4 * w
      go (no l) g =
          let c = grid (omega arith) in
          a_unit (rw c.1 (step c.0 u (2 ^ suc i) (subst (λ (z : ℕ). z < a) c.1 h)))
      go (yes l) (yes g) = a_unit (omega (arith, step (2 ^ 23) u (2 ^ suc i) (mul-lt-mul_of_pos_right g (pow_pos (suc i)))))
      -- where a is the start of the binade, the floats below are less than a unit away, but the root is not below a
      go (yes l) (no g) =
          let least : 2 ^ 23 ≤ u = R.least in
          let is : a ≡ 2 ^ (23 + suc i) = ap (λ (z : ℕ). z * 2 ^ suc i) (omega arith) ∙ sym (pow-add 2 23 (suc i)) in
          let less : a + b < 2 * a = omega arith in
          lt_of_lt_of_le (square_lt (a + b) (2 * a) less) (le_trans (le_of_eq (four a)) (mul-le-mul_left 4 (subst (λ (z : ℕ). z * z ≤ w) (sym is) R.reaches)))

-- ---- the root of x

-- m is brought to 24 digits first; half of a whole root has the root's digits
rooted : (m e : ℕ) → 0 < m → m < 2 ^ 24 → e < 254 → (u : ℕ) × (i : ℕ) × Rooted (m * 2 ^ e * 2 ^ 149) u i
rooted m e M H E =
    let z = size m in
    let least : 0 < z = lt_of_not-le (λ (g : z ≤ 0). not-le_of_lt (lt_of_lt_of_le (size-lt m) (pow_mono {i = z} {j = 0} g)) M) in
    let most : z ≤ 24 = size-le m 24 H in
    let k = 24 - z in
    let digits_sum : 23 ≡ z - 1 + k = omega arith in
    let lo : 2 ^ 23 ≤ m * 2 ^ k = le_trans (le_of_eq (ap (λ (x : ℕ). 2 ^ x) digits_sum ∙ pow-add 2 (z - 1) k)) (mul-le-mul_right (2 ^ k) (size_reaches m (z - 1) (omega arith))) in
    let hi : m * 2 ^ k < 2 ^ 24 = lt_of_lt_of_le (shl_lt z k (size-lt m)) (pow_mono {i = z + k} {j = 24} (omega arith)) in
    let f = e + 126 - k in
    let n = m * 2 ^ k * (2 ^ 25 * (1 + f % 2)) in
    let s = whole_root n in
    let u = (s + 1) / 2 in
    let i = f / 2 - 1 in
    let exponents_sum : e + 126 + 23 ≡ e + 149 = omega arith in (
      u,
      i,
      subst (λ (w : ℕ). Rooted w u i)
          (digit_gained m k (e + 126) (m * 2 ^ e * 2 ^ 149) (omega arith) (ap (λ (x : ℕ). m * 2 ^ x) exponents_sum ∙ ap (λ (x : ℕ). m * x) (pow-add 2 e 149) ∙ sym (mul_assoc m (2 ^ e) (2 ^ 149))))
          (counted_root (m * 2 ^ k) f s lo hi (omega arith) (omega arith) (whole_root_lem n).0 (whole_root_lem n).1),
    )

-- from units to x
scaled : (x : Float) (n : ℕ) → HasValue x false n (2 ^ 149) → 4 * (n * 2 ^ 149) * den x ≡ num x * 4 ^ 150
scaled x n v = omega (arith, value→cross x n (2 ^ 149) v)

pub root_nearest : (x : Float) → T (positive x) → T (fits binary32 x) → NearestRoot x (square_root binary32 x)
root_nearest x p h =
    let d = digits x p h in
    let n = d.m * 2 ^ d.e in
    let w = n * 2 ^ 149 in
    let r = rooted d.m d.e d.least d.most d.finite in
    let a = r.0 * 2 ^ suc r.1 in
    let is = root_of_value x n (mul-pos d.least (pow_pos d.e)) d.value in
    record {
      a = a;
      value = subst (λ (y : Float). InUnits y a) (sym is) (root_fits binary32 w, r.2.value);
      above = λ y b v l. subst (λ (z : ℕ). z < (a + b) * (a + b) * den x) (scaled x n d.value) (mul-lt-mul_of_pos_right (over w r.0 r.1 b r.2 (on_grid y b (suc r.1) v) l) (den_pos x));
      below = λ y b v l. subst (λ (z : ℕ). (a + b) * (a + b) * den x < z) (scaled x n d.value) (mul-lt-mul_of_pos_right (under w r.0 r.1 b r.2 (on_grid y b (suc r.1) v) l) (den_pos x));
    }
