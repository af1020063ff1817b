-- x / k and u / l are the same fraction, and so are y / k and v / l: `x * l ≡ u * k` and `y * l ≡ v * k`. What holds of x and y then holds of u and v,
-- and what is made of x and y is the same fraction as what is made of u and v.
use mathlib.Core.Path.{◌≡◌, sym, ap, ap₂, ◌∙◌}
use Prim.Native.Nat.{ℕ, ◌+◌, ◌-◌, ◌*◌, ◌/◌, ◌%◌, ◌≤◌, ◌<◌}
use native.Mathlib.Nat.{le_trans, le_of_eq, lt_of_lt_of_le, lt_of_le_of_lt, add-mul, mul_assoc, mul_comm, mul-sub, mul_right_comm, mul-pos, mul-mul-mul_comm, eq_of_mul-eq-mul_right, mul-le-mul_right, mul-lt-mul_of_pos_right, le_of_mul-le-mul_right, lt_of_mul-lt-mul_right, mod-lt, div-add-mod'}
use lib.Arith.{digits_mod}

pub scale_mod : (x y k : ℕ) → 0 < y → 0 < k → x * k % (y * k) ≡ x % y * k
scale_mod x y k Y K =
    ap (λ (z : ℕ). z % (y * k)) (ap (λ (z : ℕ). z * k) (sym (div-add-mod' x y)) ∙ add-mul (x / y * y) (x % y) k ∙ ap (λ (z : ℕ). z + x % y * k) (mul_assoc (x / y) y k))
    ∙ digits_mod (x / y) (mul-lt-mul_of_pos_right (mod-lt x Y) K)

scale_sub : (x y k : ℕ) → (x - y) * k ≡ x * k - y * k
scale_sub x y k = mul_comm (x - y) k ∙ mul-sub k x y ∙ ap₂ (λ (a b : ℕ). a - b) (mul_comm k x) (mul_comm k y)

pub same_mul : (n x u k l : ℕ) → x * l ≡ u * k → n * x * l ≡ n * u * k
same_mul n x u k l p = mul_assoc n x l ∙ ap (λ (z : ℕ). n * z) p ∙ sym (mul_assoc n u k)

pub same_twice : (x u k l : ℕ) → x * l ≡ u * k → x * 2 * l ≡ u * 2 * k
same_twice x u k l p = mul_right_comm x 2 l ∙ ap (λ (z : ℕ). z * 2) p ∙ mul_right_comm u k 2

module _ (x y u v k l : ℕ) (p : x * l ≡ u * k) (q : y * l ≡ v * k) where
  pub same_add : (x + y) * l ≡ (u + v) * k
  same_add = add-mul x y l ∙ ap₂ (λ (a b : ℕ). a + b) p q ∙ sym (add-mul u v k)

  pub same_sub : (x - y) * l ≡ (u - v) * k
  same_sub = scale_sub x y l ∙ ap₂ (λ (a b : ℕ). a - b) p q ∙ sym (scale_sub u v k)

  pub same_cross : 0 < k → 0 < l → x * v ≡ u * y
  same_cross K L =
      eq_of_mul-eq-mul_right (l * k) (mul-pos L K) (x * v) (u * y)
      (mul-mul-mul_comm x v l k ∙ ap₂ (λ (a b : ℕ). a * b) p (sym q) ∙ mul-mul-mul_comm u k y l ∙ ap (λ (z : ℕ). u * y * z) (mul_comm k l))

  pub same_le : 0 < k → x ≤ y → u ≤ v
  same_le K h = le_of_mul-le-mul_right (le_trans (le_of_eq (sym p)) (le_trans (mul-le-mul_right l h) (le_of_eq q))) K

  pub same_lt : 0 < l → x < y → u < v
  same_lt L h = lt_of_mul-lt-mul_right k (lt_of_le_of_lt (le_of_eq (sym p)) (lt_of_lt_of_le (mul-lt-mul_of_pos_right h L) (le_of_eq q)))

  pub same_rest : 0 < y → 0 < v → 0 < k → 0 < l → x % y * l ≡ u % v * k
  same_rest Y W K L = sym (scale_mod x y l Y L) ∙ ap₂ (λ (a b : ℕ). a % b) p q ∙ scale_mod u v k W K
