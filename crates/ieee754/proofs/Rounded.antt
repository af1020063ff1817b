-- The rounded root of w, held to the standard: r = u * 2 ^ k, in units of the format's smallest value, is the result where the squares of the two points half of 2 ^ k away from it
-- enclose w strictly (`root_is`).
use Rattle.std.proofs.Common.{◌≡◌, ℕ, suc, ◌+◌, ◌-◌, ◌*◌, ◌/◌, ◌^◌, ◌<◌, ◌≤◌, Bool, true, false, cond, not, T, ltb, ◌⊎◌, sym, refl, ap, ◌∙◌, subst, inl, inr, lt_of_lt_of_le, lt_of_le_of_lt, le_of_lt, zero-lt-suc, mul_assoc, mul_comm, mul-pos, lt_of_not-le, not-le_of_lt, mul_left_comm, arith, ltb→lt, nltb→le, pow_pos, pow_mono}
use native.Mathlib.Nat.{mul-div-mul_right, pow-succ'}
use lib.Ieee.{Float, Format, prec, low, size, units, round, fits}
use lib.Ieee.Digits.{size-lt, size-le}
use lib.Ieee.Fits.{round_is, round-fits}
use lib.Ieee.Nearest.{closest, closest_same}
use Rattle.ieee754.specs.Root.{whole_root, sticky, root_of}
use Rattle.ieee754.proofs.Whole.{IsRoot, root_lt, whole_root_lem}
use Rattle.ieee754.proofs.Closest.{closest_is}

-- ---- what `root_of` hands to `round`

-- t is 0 where w is the square of q, and 1 where something was cut
abbrev Cut : ℕ → ℕ → ℕ → Type 0
Cut w q t = ((t ≡ 0) × (w ≤ q * q)) ⊎ ((t ≡ 1) × (q * q < w))

cut : (w : ℕ) → Cut w (whole_root w) (sticky w)
unfolding sticky
cut w = go (ltb (whole_root w * whole_root w) w) (ltb→lt (whole_root w * whole_root w) w) (nltb→le (whole_root w * whole_root w) w)
  where
    go : (b : Bool) → (T b → whole_root w * whole_root w < w) → (T (not b) → w ≤ whole_root w * whole_root w) → Cut w (whole_root w) (cond b 1 0)
    go true l g = inr (refl, l tt)
    go false l g = inl (refl, g tt)

one_at_most : (w q t : ℕ) → Cut w q t → t ≤ 1
one_at_most w q t (inl (e, l)) = omega arith
one_at_most w q t (inr (e, l)) = omega arith

whole_part : (q t : ℕ) → t ≤ 1 → (2 * q + t) / 2 ≡ q
whole_part q t h = omega arith

-- in units of the format's smallest value: the whole root of w, and one digit more
rounded : (f : Format) (q t : ℕ) → t ≤ 1 → round f false (2 * q + t) (2 * 2 ^ low f) ≡ units f false (closest (2 * q + t) (2 * 2 ^ (size q - prec f))) (size q - prec f)
rounded f q t h =
    let l = 2 ^ low f in
    let a = 2 * q + t in
    let whole : a * l / (2 * l) ≡ q = mul-div-mul_right a 2 (pow_pos (low f)) ∙ whole_part q t h in
    let k = size q - prec f in
    round_is f false a (2 * l)
    ∙ ap (λ (z : ℕ). units f false (closest (a * l) (2 * l * 2 ^ (size z - prec f))) (size z - prec f)) whole
    ∙ ap (λ (z : ℕ). units f false z k)
    (closest_same (a * l) (2 * l * 2 ^ k) a (2 * 2 ^ k) (mul-pos (mul-pos (zero-lt-suc 1) (pow_pos (low f))) (pow_pos k)) (mul-pos (zero-lt-suc 1) (pow_pos k)) (simp (mul_assoc, mul_comm, mul_left_comm)))

root_of_is : (f : Format) (w : ℕ) → root_of f w ≡ round f false (2 * whole_root w + sticky w) (2 * 2 ^ low f)
unfolding root_of
root_of_is f w = refl

pub root_fits : (f : Format) (w : ℕ) → T (fits f (root_of f w))
root_fits f w = subst (λ (x : Float). T (fits f x)) (sym (root_of_is f w)) (round-fits f false (2 * whole_root w + sticky w) (2 * 2 ^ low f))

-- ---- r is the multiple of 2 * h nearest to q and a half of t: 2 * r is within 2 * h of 2 * q + t
module _ (w q t r h : ℕ) (root : IsRoot w q) (c : Cut w q t) where
  -- it is strictly so near where the squares of r - h and r + h enclose w strictly
  strictly_below : (r - h) * (r - h) < w → 2 * r < 2 * q + t + 2 * h
  strictly_below n = go c
    where
      exact : t ≡ 0 → r - h < q → 2 * r < 2 * q + t + 2 * h
      exact e l = omega arith

      inexact : t ≡ 1 → r - h < q + 1 → 2 * r < 2 * q + t + 2 * h
      inexact e l = omega arith

      go : Cut w q t → 2 * r < 2 * q + t + 2 * h
      go (inl p) = exact p.0 (root_lt (r - h) q (lt_of_lt_of_le n p.1))
      go (inr p) = inexact p.0 (root_lt (r - h) (q + 1) (lt_of_lt_of_le n (le_of_lt root.1)))

  strictly_above : w < (r + h) * (r + h) → 2 * q + t < 2 * r + 2 * h
  strictly_above n = room (root_lt q (r + h) (lt_of_le_of_lt root.0 n))
    where
      room : q < r + h → 2 * q + t < 2 * r + 2 * h
      room l = omega (arith, one_at_most w q t c)

-- ---- the law

-- `closest` compares u * (2 * unit) with 2 * q + t, and `strictly_below` and `strictly_above` the double of u * unit
double_lt : (a u unit : ℕ) → 2 * (u * unit) < a + unit → u * (2 * unit) * 2 < a * 2 + 2 * unit
double_lt a u unit n = omega (arith, mul_left_comm u 2 unit)

double_gt : (a u unit : ℕ) → a < 2 * (u * unit) + unit → a * 2 < u * (2 * unit) * 2 + 2 * unit
double_gt a u unit n = omega (arith, mul_left_comm u 2 unit)

-- a number between 2 ^ (p + k) and 2 ^ (p + 1 + k) has k digits beyond p + 1
pub digits_beyond : (p q k : ℕ) → 2 ^ (p + k) ≤ q → q < 2 ^ (suc p + k) → size q - suc p ≡ k
digits_beyond p q k lo hi = count (size q) (size-le q (suc p + k) hi) (lt_of_not-le (λ (g : size q ≤ p + k). not-le_of_lt (lt_of_lt_of_le (size-lt q) (pow_mono g)) lo))
  where
    count : (z : ℕ) → z ≤ suc p + k → p + k < z → z - suc p ≡ k
    count z a b = omega arith

root_units : (f : Format) (w k : ℕ) → size (whole_root w) - prec f ≡ k → root_of f w ≡ units f false (closest (2 * whole_root w + sticky w) (2 * 2 ^ k)) k
root_units f w k e =
    root_of_is f w
    ∙ rounded f (whole_root w) (sticky w) (one_at_most w (whole_root w) (sticky w) (cut w))
    ∙ ap (λ (z : ℕ). units f false (closest (2 * whole_root w + sticky w) (2 * 2 ^ z)) z) e

-- a format of p + 1 digits, and a unit of 2 ^ (j + 1), of which 2 ^ j is the half
module _ (f : Format) (p : ℕ) (P : prec f ≡ suc p) (w u j : ℕ) where
  pub root_is : 2 ^ (p + suc j) * 2 ^ (p + suc j) ≤ w → w < 2 ^ (suc p + suc j) * 2 ^ (suc p + suc j)
      → (u * 2 ^ suc j - 2 ^ j) * (u * 2 ^ suc j - 2 ^ j) < w → w < (u * 2 ^ suc j + 2 ^ j) * (u * 2 ^ suc j + 2 ^ j)
      → root_of f w ≡ units f false u (suc j)
  root_is lo hi b a =
      let q = whole_root w in
      let t = sticky w in
      let r = u * 2 ^ suc j in
      let unit : 2 ^ suc j ≡ 2 * 2 ^ j = pow-succ' 2 j in
      let reaches : 2 ^ (p + suc j) < q + 1 = root_lt (2 ^ (p + suc j)) (q + 1) (lt_of_le_of_lt lo (whole_root_lem w).1) in
      let ends : q < 2 ^ (suc p + suc j) = root_lt q (2 ^ (suc p + suc j)) (lt_of_le_of_lt (whole_root_lem w).0 hi) in
      let k-is : size q - prec f ≡ suc j = ap (λ (z : ℕ). size q - z) P ∙ digits_beyond p q (suc j) (omega arith) ends in
      root_units f w (suc j) k-is
      ∙ ap (λ (z : ℕ). units f false z (suc j))
      (closest_is (2 * q + t) (2 * 2 ^ suc j) u (mul-pos (zero-lt-suc 1) (pow_pos (suc j)))
      (double_lt (2 * q + t) u (2 ^ suc j) (omega (arith, strictly_below w q t r (2 ^ j) (whole_root_lem w) (cut w) b)))
      (double_gt (2 * q + t) u (2 ^ suc j) (omega (arith, strictly_above w q t r (2 ^ j) (whole_root_lem w) (cut w) a))))
