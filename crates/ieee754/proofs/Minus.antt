-- A multiple of y taken off x, exactly: what that says of floats, that it does not turn on the fractions, and that `least_rest` does it.
use mathlib.Core.Path.{◌≡◌, sym}
use mathlib.Core.Logic.{⊎_elim}
use Prim.Native.Nat.{ℕ, ◌-◌, ◌*◌, ◌%◌, ◌≤◌, ◌<◌}
use native.Mathlib.Nat.{not-le_of_lt}
use mathlib.Core.Bool.{Bool, not}
use lib.Ieee.{Float, Format, round}
use lib.Ieee.Exact.{HasValue}
use lib.Ieee.Nearest.{closest}
use Rattle.ieee754.specs.Remainder.{least_rest}
use Rattle.ieee754.specs.Laws.{Minus}
use Rattle.ieee754.proofs.Closest.{Floor, Ceiling}
use Rattle.ieee754.proofs.Fractions.{same_sub, same_le, same_lt}
use Rattle.ieee754.proofs.Least.{least_rest_is}
use Rattle.ieee754.proofs.Values.{rescale}

-- it does not turn on which fractions x and the multiple are written as
pub minus_same : (r : Float) (s : Bool) (a k c a' k' c' : ℕ) → 0 < c → 0 < c' → a' * c ≡ a * c' → k' * c ≡ k * c' → Minus r s a' k' c' → Minus r s a k c
minus_same r s a k c a' k' c' C C' p q v = (
  λ h. rescale r s (a' - k') c' (a - k) c C' (same_sub a' k' a k c' c p q) (v.0 (same_le k a k' a' c c' (sym q) (sym p) C h)),
  λ h. rescale r (not s) (k' - a') c' (k - a) c C' (same_sub k' a' k a c' c q p) (v.1 (same_lt a k a' k' c c' (sym p) (sym q) C' h)),
)

-- `least_rest` is exact where each of the two roundings that it may do is
pub minus_least : (f : Format) (s : Bool) (a b c : ℕ) → 0 < b → ((u : Bool) → HasValue (round f u (a % b) c) u (a % b) c) → ((u : Bool) → b ≤ a % b * 2 → HasValue (round f u (b - a % b) c) u (b - a % b) c)
    → Minus (least_rest f s a b c) s a (closest a b * b) c
minus_least f s a b c B rest gap = ⊎_elim at_floor at_ceiling (least_rest_is f s a b c B)
  where
    at_floor : Floor (closest a b) a b × (least_rest f s a b c ≡ round f s (a % b) c) → Minus (least_rest f s a b c) s a (closest a b * b) c
    at_floor w = (λ h. rw (w.1, w.0.rest) (rest s), λ h. absurd (not-le_of_lt h w.0.reached))

    at_ceiling : Ceiling (closest a b) a b × (least_rest f s a b c ≡ round f (not s) (b - a % b) c) → Minus (least_rest f s a b c) s a (closest a b * b) c
    at_ceiling w = (λ h. absurd (not-le_of_lt w.0.passed h), λ h. rw (w.1, w.0.rest) (gap (not s) w.0.near))
