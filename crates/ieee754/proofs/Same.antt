-- Floats of one value and one sign are one float, if the format holds them.
use mathlib.Core.Path.{◌≡◌, sym, ap, ◌∙◌, subst}
use Prim.Native.Nat.{ℕ, ◌-◌, ◌+◌, ◌*◌, ◌/◌, ◌^◌, ◌<◌}
use native.Mathlib.Nat.{mul_right_comm, eq_of_mul-eq-mul_right}
use mathlib.Core.Bool.{Bool, cond}
use lib.Dec.{T}
use lib.IntN.{ℤ}
use lib.Ieee.{Float, nan, inf, fin, Format, prec, low, up, down, size, fits, hid, top, of_bits, to_bits}
use lib.Ieee.Bits.{of_bits-to_bits}
use lib.Ieee.Exact.{HasValue}
use lib.Ieee.Fits.{down_pos}
use lib.Ieee.Nearest.{div_same}

-- floats of one size and one sign have one word
size_word : (f : Format) (s : Bool) (m : ℕ) (e : ℤ) (n : ℕ) (d : ℤ) → m * up e * down d ≡ n * up d * down e → to_bits f (fin s m e) ≡ to_bits f (fin s n d)
unfolding to_bits
size_word f s m e n d q =
    ap (λ (w : ℕ). cond s (top f) 0 + (size w - prec f) * hid f + w / 2 ^ (size w - prec f))
    (div_same (m * up e * 2 ^ low f) (down e) (n * up d * 2 ^ low f) (down d) (down_pos e) (down_pos d)
    (mul_right_comm (m * up e) (2 ^ low f) (down d) ∙ ap (λ (w : ℕ). w * 2 ^ low f) q ∙ mul_right_comm (n * up d) (down e) (2 ^ low f)))

-- floats of one size and one sign are one float, if the format holds them
pub size_same : (f : Format) (s : Bool) (m : ℕ) (e : ℤ) (n : ℕ) (d : ℤ) → T (fits f (fin s m e)) → T (fits f (fin s n d)) → m * up e * down d ≡ n * up d * down e → fin s m e ≡ fin s n d
size_same f s m e n d h k q = sym (of_bits-to_bits f (fin s m e) h) ∙ ap (of_bits f) (size_word f s m e n d q) ∙ of_bits-to_bits f (fin s n d) k

-- two values a / c with one sign
pub value_same : (f : Format) (x y : Float) (s : Bool) (a c : ℕ) → 0 < c → T (fits f x) → T (fits f y) → HasValue x s a c → HasValue y s a c → x ≡ y
value_same f nan y s a c C h k v w = absurd v
value_same f (inf t) y s a c C h k v w = absurd v
value_same f (fin t m e) nan s a c C h k v w = absurd w
value_same f (fin t m e) (inf u) s a c C h k v w = absurd w
value_same f (fin t m e) (fin u n d) s a c C h k v w =
    let sign : t ≡ u = v.0 ∙ sym w.0 in
    ap (λ (z : Bool). fin z m e) sign
    ∙ size_same f u m e n d (subst (λ (z : Bool). T (fits f (fin z m e))) sign h) k
    (eq_of_mul-eq-mul_right c C (m * up e * down d) (n * up d * down e)
    (mul_right_comm (m * up e) (down d) c ∙ ap (λ (z : ℕ). z * down d) v.1 ∙ mul_right_comm a (down e) (down d) ∙ ap (λ (z : ℕ). z * down e) (sym w.1) ∙ mul_right_comm (n * up d) c (down e)))
