-- `whole_root n` is the largest s with s * s ≤ n: its square is at most n, and that of the next number is above n (`whole_root_lem`).
-- Squares are in the order of their roots (`root_lt`).
use Rattle.std.proofs.Common.{◌≡◌, ℕ, zero, suc, ◌+◌, ◌*◌, ◌/◌, ◌^◌, ◌<◌, ◌≤◌, Bool, true, false, cond, not, T, leb, sym, ap, ◌∙◌, subst, zero-le, le_trans, le_of_eq, lt_of_lt_of_le, zero-lt-suc, suc-mul, mul_comm, div-lt_iff_lt-mul, mul-le-mul, pow-suc, lt_of_not-le, le-div_iff_mul-le, mul-suc, not-le_of_lt, arith, lit≤, leb→le}
use native.Mathlib.Nat.{mul-mul-mul_comm, pow-le-pow_left}
use lib.Dec.{nleb→lt}
use lib.Ieee.{size}
use lib.Ieee.Digits.{size-lt}
use Rattle.ieee754.specs.Root.{root_digits, whole_root}

-- s is the whole part of the root of n
abbrev pub IsRoot : ℕ → ℕ → Type 0
IsRoot n s = (s * s ≤ n) × (n < (s + 1) * (s + 1))

-- of two numbers the one with the larger square is larger
pub root_lt : (a b : ℕ) → a * a < b * b → a < b
root_lt a b h = lt_of_not-le (λ (g : b ≤ a). not-le_of_lt h (mul-le-mul g g))

pub square_lt : (a b : ℕ) → a < b → a * a < b * b
square_lt a b h = lt_of_lt_of_le next (mul-le-mul h h)
  where
    next : a * a < suc a * suc a
    next = simp (suc-mul, mul-suc) (omega arith)

pub double_square : (a : ℕ) → 2 * a * (2 * a) ≡ a * a * 4
double_square a = mul-mul-mul_comm 2 a 2 a ∙ mul_comm 4 (a * a)

-- one digit more: where s is the root of n / 4, the root of n is 2 * s or 2 * s + 1
digit : (n s : ℕ) → IsRoot (n / 4) s → IsRoot n (cond (leb ((2 * s + 1) * (2 * s + 1)) n) (2 * s + 1) (2 * s))
digit n s h = go (leb ((2 * s + 1) * (2 * s + 1)) n) (leb→le ((2 * s + 1) * (2 * s + 1)) n) (nleb→lt ((2 * s + 1) * (2 * s + 1)) n)
  where
    twice : 2 * (s + 1) ≡ 2 * s + 1 + 1
    twice = omega arith

    go : (b : Bool) → (T b → (2 * s + 1) * (2 * s + 1) ≤ n) → (T (not b) → n < (2 * s + 1) * (2 * s + 1)) → IsRoot n (cond b (2 * s + 1) (2 * s))
    go true l g = (
      l tt,
      lt_of_lt_of_le ((div-lt_iff_lt-mul (zero-lt-suc 3)).0 h.1) (le_of_eq (sym (double_square (s + 1)) ∙ ap (λ (x : ℕ). x * x) twice)),
    )
    go false l g = (le_trans (le_of_eq (double_square s)) ((le-div_iff_mul-le (zero-lt-suc 3)).0 h.0), g tt)

digits_root : (d n : ℕ) → n < 4 ^ d → IsRoot n (root_digits d n)
unfolding root_digits
digits_root zero n h = (zero-le, h)
digits_root (suc d) n h = digit n (root_digits d (n / 4)) (digits_root d (n / 4) ((div-lt_iff_lt-mul (zero-lt-suc 3)).1 (subst (λ (x : ℕ). n < x) (pow-suc 4 d) h)))

pub whole_root_lem : (n : ℕ) → IsRoot n (whole_root n)
unfolding whole_root
whole_root_lem n = digits_root (size n) n (lt_of_lt_of_le (size-lt n) (pow-le-pow_left (lit≤ tt) (size n)))
