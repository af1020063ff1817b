-- Floats that are at least a fraction, by their exact values: what addition and doubling keep of it, and what lies below.
use mathlib.Core.Path.{◌≡◌, refl, sym, ap, ap₂, ◌∙◌}
use Prim.Native.Nat.{ℕ, ◌+◌, ◌*◌, ◌≤◌, ◌<◌}
use native.Mathlib.Nat.{le_trans, le_of_eq, le_of_lt, add-le-add, lt_of_lt_of_le, not-le_of_lt, mul_comm, mul_assoc, mul_right_comm, zero-mul, one-mul, add-mul, mul-le-mul_left, mul-le-mul_right, mul-pos}
use native.Mathlib.Omega.{arith}
use mathlib.Core.Bool.{Bool, true, false, not, ◌&&◌, ◌||◌}
use borrow.Author.Tests.{ne_eqb}
use lib.Dec.{T, lit<, ltb, eqb, lt→ltb, ltb→lt, nltb→le, eqb→eq}
use lib.Ieee.{Float, nan, inf, fin, binary32, up, down, round, sum, add, mul, lt, le, eq, of_bits}
use lib.Ieee.Fits.{down_pos}
use lib.Ieee.Exact.{HasValue}
use lib.Ieee.Order.{round_mono}
use lib.Ieee.Scale.{round_same}
use lib.Ieee.Positive.{positive, first_pos, positive_of_value, own_value, values_of_le, through, above, above_of_le}
use Rattle.vision.specs.Laws.{AtLeast}

-- a value a / c is at least each smaller n / c
pub value_least : (x : Float) (a n c : ℕ) → HasValue x false a c → n ≤ a → AtLeast x n c
value_least nan a n c v h = absurd v
value_least (inf s) a n c v h = absurd v
value_least (fin s m e) a n c v h = (v.0, le_trans (mul-le-mul_right (down e) h) (le_of_eq (sym v.1)))

-- so is what is no smaller than a value n / c
le_least : (x y : Float) (n c : ℕ) → 0 < n → HasValue x false n c → T (le x y) → AtLeast y n c
le_least x y n c N v h = go y (above_of_le x y p h) h
  where
    p : T (positive x)
    p = positive_of_value x n c v N

    go : (y : Float) → T (above y) → T (le x y) → AtLeast y n c
    go nan a l = absurd a
    go (inf true) a l = absurd a
    go (inf false) a l = refl
    go (fin true m e) a l = absurd a
    go (fin false m e) a l = (refl, values_of_le x (fin false m e) n c (m * up e) (down e) p a v (own_value (fin false m e) a) l)

-- and what a larger fraction is rounded to
round_least : (n c a b : ℕ) → 0 < n → 0 < c → 0 < b → HasValue (round binary32 false n c) false n c → n * b ≤ a * c → AtLeast (round binary32 false a b) n c
round_least n c a b N C B v h = le_least (round binary32 false n c) (round binary32 false a b) n c N v (round_mono binary32 n c a b C B h)

-- ---- sums

-- u / p is a / c: the same at the denominator p * q
part : (u p q a c : ℕ) → u * c ≡ a * p → u * q * c ≡ a * (p * q)
part u p q a c h = mul_right_comm u q c ∙ ap (λ (z : ℕ). z * q) h ∙ mul_assoc a p q

-- u / p is at least a / c
part_least : (u p q a c : ℕ) → a * p ≤ u * c → a * (p * q) ≤ u * q * c
part_least u p q a c h = le_trans (le_of_eq (sym (mul_assoc a p q))) (le_trans (mul-le-mul_right q h) (le_of_eq (mul_right_comm u c q)))

-- the sum of two values is their exact sum, rounded once
pub add_values : (x y : Float) (a b c : ℕ) → 0 < c → HasValue x false a c → HasValue y false b c → add binary32 x y ≡ round binary32 false (a + b) c
unfolding add sum
add_values nan y a b c C v w = absurd v
add_values (inf s) y a b c C v w = absurd v
add_values (fin s m e) nan a b c C v w = absurd w
add_values (fin s m e) (inf t) a b c C v w = absurd w
add_values (fin s m e) (fin t n d) a b c C v w =
    rw (v.0, w.0)
    (round_same binary32 false (m * up e * down d + n * up d * down e) (down e * down d) (a + b) c (mul-pos (down_pos e) (down_pos d)) C
    (add-mul (m * up e * down d) (n * up d * down e) c
    ∙ ap₂ ◌+◌ (part (m * up e) (down e) (down d) a c v.1) (part (n * up d) (down d) (down e) b c w.1 ∙ ap (λ (z : ℕ). b * z) (mul_comm (down d) (down e)))
    ∙ sym (add-mul a b (down e * down d))))

-- what is at least a / c and what is at least b / c have a sum that is at least each value up to a / c + b / c
pub add_least : (x y : Float) (a b n c : ℕ) → 0 < n → 0 < c → HasValue (round binary32 false n c) false n c → n ≤ a + b → AtLeast x a c → AtLeast y b c → AtLeast (add binary32 x y) n c
unfolding add sum
add_least nan y a b n c N C v h p q = absurd p
add_least (inf s) nan a b n c N C v h p q = absurd q
add_least (inf s) (inf t) a b n c N C v h p q = rw (p, q) refl
add_least (inf s) (fin t k d) a b n c N C v h p q = p
add_least (fin s m e) nan a b n c N C v h p q = absurd q
add_least (fin s m e) (inf t) a b n c N C v h p q = q
add_least (fin s m e) (fin t k d) a b n c N C v h p q =
    rw (p.0, q.0)
    (round_least n c (m * up e * down d + k * up d * down e) (down e * down d) N C (mul-pos (down_pos e) (down_pos d)) v
    (le_trans (mul-le-mul_right (down e * down d) h)
    (le_trans (le_of_eq (add-mul a b (down e * down d)))
    (le_trans (add-le-add (part_least (m * up e) (down e) (down d) a c p.1) (le_trans (le_of_eq (ap (λ (z : ℕ). b * z) (mul_comm (down e) (down d)))) (part_least (k * up d) (down d) (down e) b c q.1)))
    (le_of_eq (sym (add-mul (m * up e * down d) (k * up d * down e) c)))))))

-- ---- twice a float

pub double_least : (x : Float) (a c : ℕ) → 0 < a → 0 < c → HasValue (round binary32 false (2 * a) c) false (2 * a) c → AtLeast x a c → AtLeast (mul binary32 (of_bits binary32 0x4000_0000) x) (2 * a) c
unfolding mul of_bits
double_least nan a c A C v p = absurd p
double_least (inf s) a c A C v p = rw p refl
double_least (fin s m e) a c A C v p =
    rw p.0
    (round_least (2 * a) c (2 * (m * up e)) (1 * down e) (omega arith) C (mul-pos (lit< tt) (down_pos e)) v
    (le_trans (le_of_eq (ap (λ (z : ℕ). 2 * a * z) (one-mul (down e)) ∙ mul_assoc 2 a (down e)))
    (le_trans (mul-le-mul_left 2 p.1) (le_of_eq (sym (mul_assoc 2 (m * up e) c))))))

-- ---- what lies below

at_most : (a b : ℕ) → T (ltb a b || (eqb a b && true)) → a ≤ b
at_most a b h = go (ltb a b) (eqb a b) (ltb→lt a b) (eqb→eq a b) h
  where
    go : (x y : Bool) → (T x → a < b) → (T y → a ≡ b) → T (x || (y && true)) → a ≤ b
    go true y f g t = le_of_lt (f tt)
    go false true f g t = le_of_eq (g tt)
    go false false f g t = absurd t

strictly : (x y : ℕ) → (y ≤ x → ⊥) → T (ltb x y)
strictly x y h = go (ltb x y) (nltb→le x y)
  where
    go : (b : Bool) → (T (not b) → y ≤ x) → T b
    go true f = tt
    go false f = absurd (h (f tt))

-- a float up to a / b is below each that is at least a larger n / c
pub below_least : (d x y : Float) (a b n c : ℕ) → 0 < b → a * c < n * b → HasValue x false a b → T (le d x) → AtLeast y n c → T (lt d y)
unfolding le lt
below_least nan x y a b n c B h v l p = absurd l
below_least (inf t) nan y a b n c B h v l p = absurd v
below_least (inf t) (inf s) y a b n c B h v l p = absurd v
below_least (inf true) (fin s m e) nan a b n c B h v l p = absurd p
below_least (inf true) (fin s m e) (inf u) a b n c B h v l p = rw p tt
below_least (inf true) (fin s m e) (fin u k f) a b n c B h v l p = tt
below_least (inf false) (fin s m e) y a b n c B h v l p = absurd l
below_least (fin t j g) nan y a b n c B h v l p = absurd v
below_least (fin t j g) (inf s) y a b n c B h v l p = absurd v
below_least (fin t j g) (fin s m e) nan a b n c B h v l p = absurd p
below_least (fin t j g) (fin s m e) (inf u) a b n c B h v l p = rw p tt
below_least (fin true j g) (fin s m e) (fin u k f) a b n c B h v l p =
    let numerator : 0 < n = first_pos n b (omega arith) in
    let size : 0 < k * up f = first_pos (k * up f) c (lt_of_lt_of_le (mul-pos numerator (down_pos f)) p.1) in
    rw p.0 (lt→ltb 0 (j * up g * down f + k * up f * down g) (omega (arith, mul-pos size (down_pos g))))
below_least (fin false j g) (fin s m e) (fin u k f) a b n c B h v l p =
    let low : j * up g * down e ≤ m * up e * down g = at_most (j * up g * down e) (m * up e * down g) (rw v.0 at l) in
    rw p.0
    (strictly (j * up g * down f) (k * up f * down g) λ q.
    let r = through n (k * up f) (j * up g) c (down f) (down g) (down_pos f) p.1 q in
    let s = through n (j * up g) (m * up e) c (down g) (down e) (down_pos g) r low in
    not-le_of_lt h (through n (m * up e) a c (down e) b (down_pos e) s (le_of_eq v.1)))

-- what is at least a fraction above zero is not equal to 0.0
pub least_not_zero : (x : Float) (n c : ℕ) → 0 < n → AtLeast x n c → eq x (of_bits binary32 0) ≡ false
unfolding eq of_bits
least_not_zero nan n c N p = absurd p
least_not_zero (inf s) n c N p = refl
least_not_zero (fin s m e) n c N p =
    let size : 0 < m * up e = first_pos (m * up e) c (lt_of_lt_of_le (mul-pos N (down_pos e)) p.1) in
    rw (ne_eqb (m * up e * 1) (0 * down e) λ z. omega (arith, zero-mul (down e)))
