-- The root of a significand of 24 digits and an exponent: the digits u of the result are known by two points, the squares of u - 1/2 and u + 1/2, between which the significand lies
-- (`root_by_points`). u is half of a whole root, rounded up (`points`), or any number that passes one comparison on each side (`near_points`).
use Rattle.std.proofs.Common.{◌≡◌, ℕ, zero, suc, ◌+◌, ◌-◌, ◌*◌, ◌/◌, ◌%◌, ◌^◌, ◌<◌, ◌≤◌, false, not, T, sym, refl, ap, ◌∙◌, subst, le_trans, le_of_eq, lt_of_lt_of_le, lt_of_le_of_lt, mul-le-mul_right, mul_assoc, suc-mul, mul_comm, add-mul, mul-le-mul, mul-lt-mul_of_pos_right, mul-pos, mul-suc, mul-add, mul_left_comm, lt_of_not-le, not-le_of_lt, arith, lit<, lit≤, pow_pos, pow_mono, pow-add, shl_lt}
use native.Mathlib.Nat.{mul-mul-mul_comm, mul-sub, pow-succ', mod-eq_of_lt, le_of_suc-le-suc}
use lib.Arith.{lt_of_le-ne}
use lib.Ieee.{Float, binary32, nan_bits, of_bits}
use lib.Ieee.Exact.{HasValue, units_val}
use Rattle.ieee754.specs.Root.{root_of}
use Rattle.ieee754.proofs.Whole.{IsRoot, root_lt, square_lt, double_square}
use Rattle.ieee754.proofs.Rounded.{root_is, root_fits}
use Rattle.ieee754.proofs.Patterns.{normal_bits, finite_bits}

-- ---- the two points, doubled so that they are whole numbers

abbrev pub Points : ℕ → ℕ → Type 0
Points n u = ((2 * u - 1) * (2 * u - 1) < n) × (n < (2 * u + 1) * (2 * u + 1))

-- the square of an odd number
odd_square : (v : ℕ) → (2 * v + 1) * (2 * v + 1) ≡ v * v * 4 + v * 4 + 1
odd_square v = omega (arith, add-mul (2 * v) 1 (2 * v + 1), mul-add (2 * v) (2 * v) 1, double_square v)

-- of the whole root s of an even n, the half rounded up
pub points : (n s : ℕ) → n % 2 ≡ 0 → 0 < s → IsRoot n s → Points n ((s + 1) / 2)
points n s even pos root = go (s % 2) refl
  where
    u : ℕ
    u = (s + 1) / 2

    next : s % 2 ≡ 0 → s + 1 ≡ 2 * u + 1
    next e = omega arith

    before : s % 2 ≡ 0 → 2 * u - 1 < s
    before e = omega arith

    same : (r : ℕ) → s % 2 ≡ suc r → 2 * u - 1 ≡ s
    same r e = omega arith

    past : s + 1 ≤ 2 * u + 1
    past = omega arith

    half : (r : ℕ) → s % 2 ≡ suc r → s ≡ 2 * (s / 2) + 1
    half r e = omega arith

    uneven : (r : ℕ) → s % 2 ≡ suc r → s * s ≡ n → ⊥
    uneven r e q = omega (arith, ap (λ (x : ℕ). x * x) (half r e), odd_square (s / 2))

    go : (r : ℕ) → s % 2 ≡ r → Points n u
    go zero e = (lt_of_lt_of_le (square_lt (2 * u - 1) s (before e)) root.0, subst (λ (x : ℕ). n < x * x) (next e) root.1)
    go (suc r) e = (
      subst (λ (x : ℕ). x * x < n) (sym (same r e)) (lt_of_le-ne root.0 (uneven r e)),
      lt_of_lt_of_le root.1 (mul-le-mul past past),
    )

-- of a quarter n, a u with n between u * u - u and u * u + u
pub near_points : (n u : ℕ) → u * u < n + u → n ≤ u * u + u → Points (4 * n) u
near_points n zero a b = absurd (none n a b)
  where
    none : (n : ℕ) → 0 < n + 0 → n ≤ 0 + 0 → ⊥
    none n a b = omega arith
near_points n (suc v) a b = (
  lt_of_le_of_lt (le_of_eq (ap (λ (x : ℕ). x * x) (less v))) (omega (arith, odd_square v, square_suc)),
  omega (arith, odd_square (suc v)),
)
  where
    less : (v : ℕ) → 2 * suc v - 1 ≡ 2 * v + 1
    less v = omega arith

    square_suc : suc v * suc v ≡ v * v + v + suc v
    square_suc = simp (suc-mul, mul-suc)

-- ---- with x = a * c and w = n * c ^ 2, the order of a * a and n is that of x * x and w
module _ (a n c w x : ℕ) (x-is : x ≡ a * c) (w-is : w ≡ n * (c * c)) where
  square_is : x * x ≡ a * a * (c * c)
  square_is = ap (λ (z : ℕ). z * z) x-is ∙ mul-mul-mul_comm a c a c

  scaled_le : a * a ≤ n → x * x ≤ w
  scaled_le h = le_trans (le_of_eq square_is) (le_trans (mul-le-mul_right (c * c) h) (le_of_eq (sym w-is)))

  scaled_lt : 0 < c → a * a < n → x * x < w
  scaled_lt C h = lt_of_le_of_lt (le_of_eq square_is) (lt_of_lt_of_le (mul-lt-mul_of_pos_right h (mul-pos C C)) (le_of_eq (sym w-is)))

  scaled_gt : 0 < c → n < a * a → w < x * x
  scaled_gt C h = lt_of_le_of_lt (le_of_eq w-is) (lt_of_lt_of_le (mul-lt-mul_of_pos_right h (mul-pos C C)) (le_of_eq (sym square_is)))

-- ---- the significand m, or twice it where p, the exponent's last digit, is 1; and the exponent's half

past_one : (p : ℕ) → suc (suc p) < 2 → ⊥
past_one p h = omega arith

digit_power : (p : ℕ) → p < 2 → 2 ^ p ≡ 1 + p
digit_power zero h = refl
digit_power (suc zero) h = refl
digit_power (suc (suc p)) h = absurd (past_one p h)

-- in units of 2 ^ -25 and of 2 ^ -23
pub doubled : (m p : ℕ) → p < 2 → 2 ^ 23 ≤ m → m < 2 ^ 24
    → (2 ^ 48 ≤ m * (2 ^ 25 * (1 + p))) × (m * (2 ^ 25 * (1 + p)) ≤ 2 ^ 50 - 2 ^ 26) × (m * (2 ^ 25 * (1 + p)) ≡ 4 * (m * (2 ^ 23 * (1 + p))))
doubled m zero h lo hi = omega arith
doubled m (suc zero) h lo hi = omega arith
doubled m (suc (suc p)) h lo hi = absurd (past_one p h)

split_power : (m e p i : ℕ) → p ≡ e % 2 → e / 2 ≡ suc i → m * 2 ^ (e + 23) ≡ m * (2 ^ 25 * (1 + p)) * (2 ^ i * 2 ^ i)
split_power m e p i q h =
    let sum : e + 23 ≡ 25 + p + (i + i) = omega arith in
    ap (λ (x : ℕ). m * 2 ^ x) sum
    ∙ ap (λ (x : ℕ). m * x) (pow-add 2 (25 + p) (i + i) ∙ ap (λ (x : ℕ). x * 2 ^ (i + i)) (pow-add 2 25 p) ∙ ap (λ (x : ℕ). 2 ^ 25 * 2 ^ p * x) (pow-add 2 i i))
    ∙ sym (mul_assoc m (2 ^ 25 * 2 ^ p) (2 ^ i * 2 ^ i))
    ∙ ap (λ (x : ℕ). m * (2 ^ 25 * x) * (2 ^ i * 2 ^ i)) (digit_power p (omega arith))

-- half a unit below and above u units of 2 * c
half_below : (u c : ℕ) → u * (2 * c) - c ≡ (2 * u - 1) * c
half_below u c = omega (arith, mul_comm (2 * u - 1) c, mul-sub c (2 * u) 1, mul_left_comm u 2 c, mul_left_comm c 2 u, mul_comm c u)

half_above : (u c : ℕ) → u * (2 * c) + c ≡ (2 * u + 1) * c
half_above u c = omega (arith, add-mul (2 * u) 1 c, mul_left_comm u 2 c, mul_assoc 2 u c)

-- The rounded root of w is u units of 2 ^ suc i, u having 24 digits. w is not below the binade's start, and lies between the squares of the points 2 ^ i, half a unit, below and above.
pub record Rooted (w u i : ℕ) : Type 0 where
  pub value : HasValue (root_of binary32 w) false (u * 2 ^ suc i) (2 ^ 149)
  pub least : 2 ^ 23 ≤ u
  pub reaches : 2 ^ (23 + suc i) * 2 ^ (23 + suc i) ≤ w
  pub below : (u * 2 ^ suc i - 2 ^ i) * (u * 2 ^ suc i - 2 ^ i) < w
  pub above : w < (u * 2 ^ suc i + 2 ^ i) * (u * 2 ^ suc i + 2 ^ i)

module _ (m e p u : ℕ) (lo : 2 ^ 23 ≤ m) (hi : m < 2 ^ 24) (digit : p ≡ e % 2) (two-points : Points (m * (2 ^ 25 * (1 + p))) u) where
  bounds : (2 ^ 48 ≤ m * (2 ^ 25 * (1 + p))) × (m * (2 ^ 25 * (1 + p)) ≤ 2 ^ 50 - 2 ^ 26) × (m * (2 ^ 25 * (1 + p)) ≡ 4 * (m * (2 ^ 23 * (1 + p))))
  bounds = doubled m p (omega arith) lo hi

  -- u has 24 digits
  root_least : 2 ^ 23 ≤ u
  root_least = omega (arith, root_lt (2 ^ 24) (2 * u + 1) (lt_of_le_of_lt bounds.0 two-points.1))

  pub root_most : u < 2 ^ 24
  root_most = omega (arith, root_lt (2 * u - 1) (2 ^ 25 - 1) (lt_of_lt_of_le two-points.0 (le_trans bounds.1 (lit≤ tt))))

  rooted : 2 ≤ e → e < 380 → Rooted (m * 2 ^ (e + 23)) u (e / 2 - 1)
  rooted e-lo e-hi =
      let i = e / 2 - 1 in
      let n = m * (2 ^ 25 * (1 + p)) in
      let w = m * 2 ^ (e + 23) in
      let c = 2 ^ i in
      let unit : 2 ^ suc i ≡ 2 * c = pow-succ' 2 i in
      let w-is : w ≡ n * (c * c) = split_power m e p i digit (omega arith) in
      let reaches = scaled_le (2 ^ 24) n c w (2 ^ (23 + suc i)) (ap (λ (x : ℕ). 2 ^ x) (omega arith) ∙ pow-add 2 24 i) w-is bounds.0 in
      let below = scaled_lt (2 * u - 1) n c w (u * 2 ^ suc i - c) (ap (λ (x : ℕ). u * x - c) unit ∙ half_below u c) w-is (pow_pos i) two-points.0 in
      let above = scaled_gt (2 * u + 1) n c w (u * 2 ^ suc i + c) (ap (λ (x : ℕ). u * x + c) unit ∙ half_above u c) w-is (pow_pos i) two-points.1 in
      let ends = scaled_gt (2 ^ 25) n c w (2 ^ (24 + suc i)) (ap (λ (x : ℕ). 2 ^ x) (omega arith) ∙ pow-add 2 25 i) w-is (pow_pos i) (lt_of_le_of_lt bounds.1 (lit< tt)) in
      record {
        value =
            subst (λ (x : Float). HasValue x false (u * 2 ^ suc i) (2 ^ 149)) (sym (root_is binary32 23 refl w u i reaches ends below above))
            (units_val binary32 false u (suc i) (lt_of_lt_of_le (shl_lt 24 (suc i) root_most) (pow_mono {i = 24 + suc i} {j = 277} (omega arith))));
        least = root_least;
        reaches = reaches;
        below = below;
        above = above;
      }

  pub root_by_points : 2 ≤ e → e < 380 → root_of binary32 (m * 2 ^ (e + 23)) ≡ of_bits binary32 (e / 2 * 2 ^ 23 + u)
  root_by_points e-lo e-hi =
      let w = m * 2 ^ (e + 23) in
      let half : suc (e / 2 - 1) ≡ e / 2 = omega arith in
      normal_bits (root_of binary32 w) u (suc (e / 2 - 1)) (root_fits binary32 w) (rooted e-lo e-hi).value root_least root_most
      ∙ ap (λ (x : ℕ). of_bits binary32 (x * 2 ^ 23 + u)) half

-- ---- the two ways to the digits, each with the word of the result

-- the whole root s, from its half rounded up
module _ (m e s : ℕ) (lo : 2 ^ 23 ≤ m) (hi : m < 2 ^ 24) (e-lo : 2 ≤ e) (e-hi : e < 380) (at-most : s * s ≤ m * (2 ^ 25 * (1 + e % 2))) (beyond : m * (2 ^ 25 * (1 + e % 2)) < (s + 1) * (s + 1)) where
  counted_points : Points (m * (2 ^ 25 * (1 + e % 2))) ((s + 1) / 2)
  counted_points =
      let d = doubled m (e % 2) (omega arith) lo hi in
      let large : 2 ^ 24 < s + 1 = root_lt (2 ^ 24) (s + 1) (lt_of_le_of_lt d.0 beyond) in
      points (m * (2 ^ 25 * (1 + e % 2))) s (omega (arith, d)) (omega arith) (at-most, beyond)

  pub counted_most : (s + 1) / 2 < 2 ^ 24
  counted_most = root_most m e (e % 2) ((s + 1) / 2) lo hi refl counted_points

  pub counted_finite : T (not (nan_bits binary32 (e / 2 * 2 ^ 23 + (s + 1) / 2)))
  counted_finite = finite_bits _ (omega (arith, counted_most))

  pub counted_root : Rooted (m * 2 ^ (e + 23)) ((s + 1) / 2) (e / 2 - 1)
  counted_root = rooted m e (e % 2) ((s + 1) / 2) lo hi refl counted_points e-lo e-hi

  pub counted_word : of_bits binary32 (e / 2 * 2 ^ 23 + (s + 1) / 2) ≡ root_of binary32 (m * 2 ^ (e + 23))
  counted_word = sym (root_by_points m e (e % 2) ((s + 1) / 2) lo hi refl counted_points e-lo e-hi)

-- a u that passes the two comparisons
module _ (m e u : ℕ) (lo : 2 ^ 23 ≤ m) (hi : m < 2 ^ 24) (e-lo : 2 ≤ e) (e-hi : e < 380) (below : u * u < m * (2 ^ 23 * (1 + e % 2)) + u) (above : m * (2 ^ 23 * (1 + e % 2)) ≤ u * u + u) where
  compared_points : Points (m * (2 ^ 25 * (1 + e % 2))) u
  compared_points = subst (λ (x : ℕ). Points x u) (sym (doubled m (e % 2) (omega arith) lo hi).2) (near_points (m * (2 ^ 23 * (1 + e % 2))) u below above)

  pub compared_most : u < 2 ^ 24
  compared_most = root_most m e (e % 2) u lo hi refl compared_points

  pub compared_finite : T (not (nan_bits binary32 (e / 2 * 2 ^ 23 + u)))
  compared_finite = finite_bits _ (omega (arith, compared_most))

  pub compared_word : of_bits binary32 (e / 2 * 2 ^ 23 + u) ≡ root_of binary32 (m * 2 ^ (e + 23))
  compared_word = sym (root_by_points m e (e % 2) u lo hi refl compared_points e-lo e-hi)

-- ---- k digits more for a significand, and k less for its exponent
pub digit_gained : (m k e w : ℕ) → k ≤ e → m * 2 ^ (e + 23) ≡ w → m * 2 ^ k * 2 ^ (e - k + 23) ≡ w
digit_gained m k e w most h =
    let sum : k + (e - k + 23) ≡ e + 23 = omega arith in
    mul_assoc m (2 ^ k) (2 ^ (e - k + 23)) ∙ ap (λ (x : ℕ). m * x) (sym (pow-add 2 k (e - k + 23)) ∙ ap (λ (x : ℕ). 2 ^ x) sum) ∙ h

-- a number b below 2 ^ 24, whose first digit is worth 2 ^ j, is brought to 24 digits by 23 - j more
pub first_digit : (j : ℕ) → 2 ^ j < 2 ^ 24 → j ≤ 23
first_digit j h = le_of_suc-le-suc (lt_of_not-le (λ (g : 24 ≤ j). not-le_of_lt h (pow_mono g)))

module _ (b j : ℕ) (lo : 2 ^ j ≤ b) (next : b < 2 * 2 ^ j) (hi : b < 2 ^ 24) where
  digits : 2 ^ j * 2 ^ (23 - j) ≡ 2 ^ 23
  digits =
      let sum : j + (23 - j) ≡ 23 = omega (arith, first_digit j (lt_of_le_of_lt lo hi)) in
      sym (pow-add 2 j (23 - j)) ∙ ap (λ (x : ℕ). 2 ^ x) sum

  least : 2 ^ 23 ≤ b * 2 ^ (23 - j)
  least = le_trans (le_of_eq (sym digits)) (mul-le-mul_right (2 ^ (23 - j)) lo)

  most : b * 2 ^ (23 - j) < 2 ^ 24
  most = lt_of_lt_of_le (mul-lt-mul_of_pos_right next (pow_pos (23 - j))) (le_of_eq (mul_assoc 2 (2 ^ j) (2 ^ (23 - j)) ∙ ap (λ (x : ℕ). 2 * x) digits))

  whole : b * 2 ^ (23 - j) % 2 ^ 32 ≡ b * 2 ^ (23 - j)
  whole = mod-eq_of_lt (lt_of_lt_of_le most (lit≤ tt))

  pub brought : (2 ^ 23 ≤ b * 2 ^ (23 - j) % 2 ^ 32) × (b * 2 ^ (23 - j) % 2 ^ 32 < 2 ^ 24)
  brought = rw whole (least, most)

  pub brought_word : root_of binary32 (b * 2 ^ (23 - j) % 2 ^ 32 * 2 ^ (126 - (23 - j) + 23)) ≡ root_of binary32 (b * 2 ^ 149)
  brought_word = ap (root_of binary32) (ap (λ (x : ℕ). x * 2 ^ (126 - (23 - j) + 23)) whole ∙ digit_gained b (23 - j) 126 (b * 2 ^ 149) (omega arith) refl)
