-- A float's value, as any of its fractions: `HasValue x s a c` says that x is finite, has the sign s and is a / c in size.
use mathlib.Core.Path.{◌≡◌, sym, ap, ◌∙◌, subst}
use Prim.Native.Nat.{ℕ, ◌*◌, ◌<◌}
use native.Mathlib.Nat.{mul_comm, mul_assoc, mul_right_comm, mul-pos, eq_of_mul-eq-mul_right}
use mathlib.Core.Bool.{Bool}
use lib.IntN.{ℤ}
use lib.Ieee.{Float, nan, inf, fin, up, down}
use lib.Ieee.Fits.{down_pos}
use lib.Ieee.Exact.{HasValue}
use lib.Ieee.Positive.{first_pos}
use Rattle.ieee754.proofs.Grid.{over}

-- a / c is m * 2 ^ e
pub over_value : (m : ℕ) (e d : ℤ) (a c : ℕ) → m * up e * c ≡ a * down e → over m e d * c ≡ a * (down e * down d)
over_value m e d a c h = mul_right_comm (m * up e) (down d) c ∙ ap (λ (z : ℕ). z * down d) h ∙ mul_assoc a (down e) (down d)

pub other_value : (n : ℕ) (d e : ℤ) (b c : ℕ) → n * up d * c ≡ b * down d → over n d e * c ≡ b * (down e * down d)
other_value n d e b c q = over_value n d e b c q ∙ ap (λ (z : ℕ). b * z) (mul_comm (down d) (down e))

-- a value that is not zero has an n that is not 0
pub pos_of_value : (n : ℕ) (d : ℤ) (b c : ℕ) → 0 < b → n * up d * c ≡ b * down d → 0 < n
pos_of_value n d b c B q = first_pos n (up d) (first_pos (n * up d) c (subst (λ (z : ℕ). 0 < z) (sym q) (mul-pos B (down_pos d))))

-- the same value as another fraction
pub rescale : (x : Float) (s : Bool) (w l a c : ℕ) → 0 < l → w * c ≡ a * l → HasValue x s w l → HasValue x s a c
rescale nan s w l a c L h v = v
rescale (inf t) s w l a c L h v = v
rescale (fin t m e) s w l a c L h v = (
  v.0,
  eq_of_mul-eq-mul_right l L (m * up e * c) (a * down e)
      (mul_right_comm (m * up e) c l ∙ ap (λ (x : ℕ). x * c) v.1 ∙ mul_right_comm w (down e) c ∙ ap (λ (x : ℕ). x * down e) h ∙ mul_right_comm a l (down e)),
)

-- a float has one size
pub same_size : (x : Float) (s t : Bool) (a b c : ℕ) → HasValue x s a c → HasValue x t b c → a ≡ b
same_size nan s t a b c v w = absurd v
same_size (inf u) s t a b c v w = absurd v
same_size (fin u m e) s t a b c v w = eq_of_mul-eq-mul_right (down e) (down_pos e) a b (sym v.1 ∙ w.1)

-- and one sign
pub same_sign : (x : Float) (s t : Bool) (a b c : ℕ) → HasValue x s a c → HasValue x t b c → s ≡ t
same_sign nan s t a b c v w = absurd v
same_sign (inf u) s t a b c v w = absurd v
same_sign (fin u m e) s t a b c v w = sym v.0 ∙ w.0
