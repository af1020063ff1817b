-- The whole number n closest to a / b: how far n * b lies from a, that a tie goes to the even number, and which n it is. Nothing here is about floats.
use mathlib.Core.Path.{◌≡◌, refl, ap, ◌∙◌, subst}
use mathlib.Core.Logic.{◌⊎◌, inl, inr}
use Prim.Native.Nat.{ℕ, zero, suc, ◌+◌, ◌-◌, ◌*◌, ◌/◌, ◌%◌, ◌≤◌, ◌<◌, compare, Ordering}
use native.Mathlib.Nat.{le_antisymm, le_of_suc-le-suc, lt_of_lt_of_le, lt_of_mul-lt-mul_right, mod-lt, suc-mul, div-add-mod'}
use native.Mathlib.Omega.{arith}
use mathlib.Core.Bool.{not}
use lib.Dec.{T, is_le, compare_is_eq, eqb, leb→le, nleb→lt, eqb→eq, eqb_refl}
use lib.Ieee.{nearest}
use lib.Ieee.Nearest.{closest}

-- n is the quotient q, or the next number, by how the rest r compares with half of b; at a tie it is the even one of the two
abbrev Chosen : ℕ → ℕ → ℕ → ℕ → Type 0
Chosen n q r b = ((n ≡ q) × (r * 2 ≤ b) × (r * 2 ≡ b → n % 2 ≡ 0)) ⊎ ((n ≡ suc q) × (b ≤ r * 2) × (r * 2 ≡ b → n % 2 ≡ 0))

tie : (q r b : ℕ) → r * 2 ≡ b → Chosen (q + q % 2) q r b
tie q r b e = go (q % 2) refl
  where
    go : (p : ℕ) → q % 2 ≡ p → Chosen (q + p) q r b
    go zero z = inl (omega arith, omega arith, λ _. omega arith)
    go (suc p) z = inr (omega arith, omega arith, λ _. omega arith)

chosen : (q r b : ℕ) → Chosen (nearest q (compare (r * 2) b)) q r b
chosen q r b = go (compare (r * 2) b) (leb→le (r * 2) b) (nleb→lt (r * 2) b) (eqb→eq (r * 2) b) (λ (e : r * 2 ≡ b). subst (λ (x : ℕ). T (eqb (r * 2) x)) e (eqb_refl (r * 2)))
  where
    go : (o : Ordering) → (T (is_le o) → r * 2 ≤ b) → (T (not (is_le o)) → b < r * 2) → (T (compare_is_eq o) → r * 2 ≡ b) → (r * 2 ≡ b → T (compare_is_eq o)) → Chosen (nearest q o) q r b
    go Ordering.lt h k e n = inl (refl, h tt, λ z. absurd (n z))
    go Ordering.eq h k e n = tie q r b (e tt)
    go Ordering.gt h k e n = let l = k tt in inr (refl, omega arith, λ z. absurd (n z))

-- n * b is the last multiple of b up to a, and a is no nearer to the next
pub record Floor (n a b : ℕ) : Type 0 where
  pub reached : n * b ≤ a
  pub rest : a - n * b ≡ a % b
  pub near : a % b * 2 ≤ b
  pub even : a % b * 2 ≡ b → n % 2 ≡ 0

-- n * b is the first multiple of b beyond a, and a is no nearer to the one before
pub record Ceiling (n a b : ℕ) : Type 0 where
  pub next : n ≡ suc (a / b)
  pub passed : a < n * b
  pub rest : n * b - a ≡ b - a % b
  pub near : b ≤ a % b * 2
  pub even : a % b * 2 ≡ b → n % 2 ≡ 0

pub floor_or_ceiling : (a b : ℕ) → 0 < b → Floor (closest a b) a b ⊎ Ceiling (closest a b) a b
floor_or_ceiling a b B = go (closest a b) (chosen (a / b) (a % b) b)
  where
    whole : a / b * b + a % b ≡ a
    whole = div-add-mod' a b

    go : (n : ℕ) → Chosen n (a / b) (a % b) b → Floor n a b ⊎ Ceiling n a b
    go n (inl c) =
        let e : n * b ≡ a / b * b = ap (λ (x : ℕ). x * b) c.0 in
        inl (record { reached = omega (arith, whole); rest = omega (arith, whole); near = c.1; even = c.2 })
    go n (inr c) =
        let e : n * b ≡ a / b * b + b = ap (λ (x : ℕ). x * b) c.0 ∙ suc-mul (a / b) b in
        let l : a % b < b = mod-lt a B in
        inr (record { next = c.0; passed = omega (arith, whole); rest = omega (arith, whole); near = c.1; even = c.2 })

-- |a - n * b| is at most half of b
pub closest_near : (a b : ℕ) → 0 < b → ((a - closest a b * b) * 2 ≤ b) × ((closest a b * b - a) * 2 ≤ b)
closest_near a b B = go (closest a b) (floor_or_ceiling a b B)
  where
    go : (n : ℕ) → Floor n a b ⊎ Ceiling n a b → ((a - n * b) * 2 ≤ b) × ((n * b - a) * 2 ≤ b)
    go n (inl d) = (omega arith, omega arith)
    go n (inr u) = (omega arith, omega arith)

-- where it is half of b, n is even
pub closest_even : (a b : ℕ) → 0 < b → ((a - closest a b * b) * 2 ≡ b) ⊎ ((closest a b * b - a) * 2 ≡ b) → closest a b % 2 ≡ 0
closest_even a b B = go (closest a b) (floor_or_ceiling a b B)
  where
    go : (n : ℕ) → Floor n a b ⊎ Ceiling n a b → ((a - n * b) * 2 ≡ b) ⊎ ((n * b - a) * 2 ≡ b) → n % 2 ≡ 0
    go n (inl d) (inl e) = d.even (omega arith)
    go n (inl d) (inr e) = absurd (omega arith)
    go n (inr u) (inl e) = absurd (omega arith)
    go n (inr u) (inr e) = u.even (omega arith)

-- a number n with |a - n * b| below half of b is the closest
pub closest_is : (a b n : ℕ) → 0 < b → n * b * 2 < a * 2 + b → a * 2 < n * b * 2 + b → closest a b ≡ n
closest_is a b n B h k = same (closest a b) n (omega (arith, closest_near a b B)) (omega (arith, closest_near a b B))
  where
    at_most : (m n : ℕ) → m * b < n * b + b → m ≤ n
    at_most m n h = le_of_suc-le-suc (lt_of_mul-lt-mul_right b (lt_of_lt_of_le h (omega (arith, suc-mul n b))))

    same : (m n : ℕ) → m * b < n * b + b → n * b < m * b + b → m ≡ n
    same m n h k = le_antisymm (at_most m n h) (at_most n m k)
