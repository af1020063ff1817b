-- What `least_rest` comes to: the rest of the division, or what is missing to the next multiple; and `%` and remainder in its terms.
use mathlib.Core.Path.{◌≡◌}
use mathlib.Core.Logic.{◌⊎◌, inl, inr, ⊎_elim}
use Prim.Native.Nat.{ℕ, zero, suc, ◌-◌, ◌*◌, ◌/◌, ◌%◌, ◌≤◌, ◌<◌}
use native.Mathlib.Nat.{lt_irrefl, le_antisymm, not-le_of_lt}
use native.Mathlib.Omega.{arith}
use mathlib.Core.Bool.{Bool, not, cond}
use lib.IntN.{ℤ}
use lib.Dec.{leb, le→leb, eqb-suc-zero}
use lib.Arith.{lt→nleb}
use lib.Ieee.{Float, fin, Format, down, round, rem}
use lib.Ieee.Bits.{is_true, is_false}
use lib.Ieee.Nearest.{closest}
use Rattle.ieee754.specs.Remainder.{least_rest, remainder_by}
use Rattle.ieee754.proofs.Closest.{Floor, Ceiling, floor_or_ceiling}
use Rattle.ieee754.proofs.Grid.{over}

pub least_rest_is : (f : Format) (s : Bool) (a b c : ℕ) → 0 < b
    → (Floor (closest a b) a b × (least_rest f s a b c ≡ round f s (a % b) c)) ⊎ (Ceiling (closest a b) a b × (least_rest f s a b c ≡ round f (not s) (b - a % b) c))
unfolding least_rest
least_rest_is f s a b c B = go (closest a b) (floor_or_ceiling a b B)
  where
    pick : ℕ → Float
    pick n = cond (leb (n * b) a) (round f s (a - n * b) c) (round f (not s) (n * b - a) c)

    go : (n : ℕ) → Floor n a b ⊎ Ceiling n a b → (Floor n a b × (pick n ≡ round f s (a % b) c)) ⊎ (Ceiling n a b × (pick n ≡ round f (not s) (b - a % b) c))
    go n (inl d) = inl (d, rw (is_true (leb (n * b) a) (le→leb (n * b) a d.reached), d.rest))
    go n (inr u) = inr (u, rw (is_false (leb (n * b) a) (lt→nleb (n * b) a u.passed), u.rest))

pub least_beyond : (f : Format) (s : Bool) (a b c : ℕ) → 0 < b → b < a % b * 2 → least_rest f s a b c ≡ round f (not s) (b - a % b) c
least_beyond f s a b c B h = ⊎_elim (λ w. absurd (not-le_of_lt h w.0.near)) (λ w. w.1) (least_rest_is f s a b c B)

not_one : (n q : ℕ) → n ≡ suc q → q ≡ 0 → n % 2 ≡ 0 → ⊥
not_one n q x y z = omega arith

-- at a tie only if that is between 0 and the first multiple
pub least_within : (f : Format) (s : Bool) (a b c : ℕ) → 0 < b → a % b * 2 ≤ b → (a % b * 2 ≡ b → a / b ≡ 0) → least_rest f s a b c ≡ round f s (a % b) c
least_within f s a b c B h t = ⊎_elim (λ w. w.1) (λ w. absurd (not_up w.0)) (least_rest_is f s a b c B)
  where
    not_up : Ceiling (closest a b) a b → ⊥
    not_up u = let tie = le_antisymm h u.near in not_one (closest a b) (a / b) u.next (t tie) (u.even tie)

-- `%` and remainder of two finite values, the second not zero
pub rem_is : (f : Format) (s : Bool) (m : ℕ) (e : ℤ) (t : Bool) (n : ℕ) (d : ℤ) → 0 < n → rem f (fin s m e) (fin t n d) ≡ round f s (over m e d % over n d e) (down e * down d)
unfolding rem
rem_is f s m e t zero d h = absurd (lt_irrefl 0 h)
rem_is f s m e t (suc n) d h = rw (eqb-suc-zero n)

pub remainder_is : (f : Format) (s : Bool) (m : ℕ) (e : ℤ) (t : Bool) (n : ℕ) (d : ℤ) → 0 < n
    → remainder_by f (fin s m e) (fin t n d) ≡ least_rest f s (over m e d) (over n d e) (down e * down d)
unfolding remainder_by
remainder_is f s m e t zero d h = absurd (lt_irrefl 0 h)
remainder_is f s m e t (suc n) d h = rw (eqb-suc-zero n)
