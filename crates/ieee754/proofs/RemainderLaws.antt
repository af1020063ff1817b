-- The laws of IEEE 754 remainder, and of Rust's `%`, for finite operands of which the second is not zero: both are exact. With |x| = a / c and |y| = b / c the
-- remainder is |x| - n * |y| with x's sign, where n = `closest a b` is the whole number nearest to |x| / |y|, the even one at a tie.
use mathlib.Core.Path.{◌≡◌, refl, sym, ap, ◌∙◌, subst, subst₂}
use mathlib.Core.Logic.{◌⊎◌, inl, inr, ⊎_elim}
use Prim.Native.Nat.{ℕ, ◌-◌, ◌*◌, ◌%◌, ◌≤◌, ◌<◌}
use native.Mathlib.Nat.{mul_assoc, mul_comm}
use native.Mathlib.Omega.{arith}
use mathlib.Core.Bool.{Bool, true, false, not}
use lib.IntN.{ℤ}
use lib.Dec.{T, leb, leb→le, nleb→lt}
use lib.Ieee.{Float, nan, inf, fin, Format, up, down, round, rem, fits}
use lib.Ieee.Exact.{HasValue}
use lib.Ieee.Nearest.{closest, closest_same}
use Rattle.ieee754.specs.Remainder.{least_rest, remainder_by}
use Rattle.ieee754.proofs.Closest.{closest_near, closest_even}
use Rattle.ieee754.proofs.Fractions.{same_mul, same_cross, same_rest}
use Rattle.ieee754.proofs.Grid.{placed, over, over-pos, both_pos, rest_exact, gap_exact}
use Rattle.ieee754.proofs.Least.{rem_is, remainder_is}
use Rattle.ieee754.specs.Laws.{Operands, Minus}
use Rattle.ieee754.proofs.Minus.{minus_same, minus_least}
use Rattle.ieee754.proofs.Values.{over_value, other_value, pos_of_value, rescale, same_size, same_sign}

-- any two finite values of a format are such operands, where the second is not zero
pub operands : {f : Format} {s t : Bool} {m n : ℕ} {e d : ℤ} → T (fits f (fin s m e)) → T (fits f (fin t n d)) → 0 < n → Operands f (fin s m e) (fin t n d) s t (over m e d) (over n d e) (down e * down d)
operands {m = m} {n = n} {e = e} {d = d} X Y N = record {
  x_fits = X;
  y_fits = Y;
  x_value = (refl, ap (λ (z : ℕ). m * up e * z) (mul_comm (down e) (down d)) ∙ sym (mul_assoc (m * up e) (down d) (down e)));
  y_value = (refl, sym (mul_assoc (n * up d) (down e) (down d)));
  y_not_zero = over-pos n d e N;
  c_not_zero = both_pos e d;
}

-- `%` is exact: x - n * y, with n the quotient cut to a whole number, and with x's sign
pub rem_exact : {f : Format} {x y : Float} {s t : Bool} {a b c : ℕ} → Operands f x y s t a b c → HasValue (rem f x y) s (a % b) c
rem_exact {f} {x} {y} {s} {t} {a} {b} {c} g = go x y g.x_fits g.y_fits g.x_value g.y_value
  where
    go : (x y : Float) → T (fits f x) → T (fits f y) → HasValue x s a c → HasValue y t b c → HasValue (rem f x y) s (a % b) c
    go nan _ X Y p q = elim p [ ]
    go (inf _) _ X Y p q = elim p [ ]
    go (fin u m e) nan X Y p q = elim q [ ]
    go (fin u m e) (inf _) X Y p q = elim q [ ]
    go (fin u m e) (fin w n d) X Y p q =
        let N = pos_of_value n d b c g.y_not_zero q.1 in
        subst₂ (λ (z : Float) (v : Bool). HasValue z v (a % b) c) (sym (rem_is f u m e w n d N)) p.0
        (rescale (round f u (over m e d % over n d e) (down e * down d)) u (over m e d % over n d e) (down e * down d) (a % b) c (both_pos e d)
        (same_rest (over m e d) (over n d e) a b (down e * down d) c (over_value m e d a c p.1) (other_value n d e b c q.1) (over-pos n d e N) g.y_not_zero (both_pos e d) g.c_not_zero)
        (rest_exact f m e n d (placed f u m e X) (placed f w n d Y) N u))

-- remainder is exact: x - n * y, with n the whole number closest to x / y, and a zero has x's sign
pub remainder_exact : {f : Format} {x y : Float} {s t : Bool} {a b c : ℕ} → Operands f x y s t a b c → Minus (remainder_by f x y) s a (closest a b * b) c
remainder_exact {f} {x} {y} {s} {t} {a} {b} {c} g = go x y g.x_fits g.y_fits g.x_value g.y_value
  where
    go : (x y : Float) → T (fits f x) → T (fits f y) → HasValue x s a c → HasValue y t b c → Minus (remainder_by f x y) s a (closest a b * b) c
    go nan _ X Y p q = elim p [ ]
    go (inf _) _ X Y p q = elim p [ ]
    go (fin u m e) nan X Y p q = elim q [ ]
    go (fin u m e) (inf _) X Y p q = elim q [ ]
    go (fin u m e) (fin w n d) X Y p q =
        let N = pos_of_value n d b c g.y_not_zero q.1 in
        let A = over m e d in
        let B = over n d e in
        let C = down e * down d in
        let p' = over_value m e d a c p.1 in
        let q' = other_value n d e b c q.1 in
        let k : closest A B ≡ closest a b = closest_same A B a b (over-pos n d e N) g.y_not_zero (same_cross A B a b C c p' q' (both_pos e d) g.c_not_zero) in
        subst₂ (λ (z : Float) (v : Bool). Minus z v a (closest a b * b) c) (sym (remainder_is f u m e w n d N)) p.0
        (minus_same (least_rest f u A B C) u a (closest a b * b) c A (closest a b * B) C g.c_not_zero (both_pos e d) p' (same_mul (closest a b) B b C c q')
        (subst (λ (z : ℕ). Minus (least_rest f u A B C) u A (z * B) C) k
        (minus_least f u A B C (over-pos n d e N) (rest_exact f m e n d (placed f u m e X) (placed f w n d Y) N) (gap_exact f m e n d (placed f u m e X) (placed f w n d Y) N))))

-- its size, whichever side of zero it is on
remainder_size : {f : Format} {x y : Float} {s t : Bool} {a b c : ℕ} → Operands f x y s t a b c → (u : Bool) (r : ℕ) → HasValue (remainder_by f x y) u r c
    → (r ≡ a - closest a b * b) ⊎ (r ≡ closest a b * b - a)
remainder_size {f} {x} {y} {s} {t} {a} {b} {c} g u r h = go (leb (closest a b * b) a) (leb→le (closest a b * b) a) (nleb→lt (closest a b * b) a)
  where
    v : Minus (remainder_by f x y) s a (closest a b * b) c
    v = remainder_exact g

    go : (l : Bool) → (T l → closest a b * b ≤ a) → (T (not l) → a < closest a b * b) → (r ≡ a - closest a b * b) ⊎ (r ≡ closest a b * b - a)
    go true k m = inl (same_size (remainder_by f x y) u s r (a - closest a b * b) c h (v.0 (k tt)))
    go false k m = inr (same_size (remainder_by f x y) u (not s) r (closest a b * b - a) c h (v.1 (m tt)))

-- a remainder is at most half of y in size
pub remainder_small : {f : Format} {x y : Float} {s t : Bool} {a b c : ℕ} → Operands f x y s t a b c → (u : Bool) (r : ℕ) → HasValue (remainder_by f x y) u r c → r * 2 ≤ b
remainder_small {a} {b} g u r h =
    ⊎_elim (λ e. rw e (closest_near a b g.y_not_zero).0) (λ e. rw e (closest_near a b g.y_not_zero).1) (remainder_size g u r h)

-- where it is half of y, n is even
pub remainder_even : {f : Format} {x y : Float} {s t : Bool} {a b c : ℕ} → Operands f x y s t a b c → (u : Bool) (r : ℕ) → HasValue (remainder_by f x y) u r c → r * 2 ≡ b → closest a b % 2 ≡ 0
remainder_even {a} {b} g u r h k =
    closest_even a b g.y_not_zero (⊎_elim (λ e. inl (rw e at k)) (λ e. inr (rw e at k)) (remainder_size g u r h))

-- where it is zero, it has x's sign
pub remainder_zero_sign : {f : Format} {x y : Float} {s t : Bool} {a b c : ℕ} → Operands f x y s t a b c → (u : Bool) → HasValue (remainder_by f x y) u 0 c → u ≡ s
remainder_zero_sign {f} {x} {y} {s} {t} {a} {b} {c} g u h = go (leb (closest a b * b) a) (leb→le (closest a b * b) a) (nleb→lt (closest a b * b) a)
  where
    v : Minus (remainder_by f x y) s a (closest a b * b) c
    v = remainder_exact g

    go : (l : Bool) → (T l → closest a b * b ≤ a) → (T (not l) → a < closest a b * b) → u ≡ s
    go true k m = same_sign (remainder_by f x y) u s 0 (a - closest a b * b) c h (v.0 (k tt))
    go false k m =
        let none : 0 ≡ closest a b * b - a = same_size (remainder_by f x y) u (not s) 0 (closest a b * b - a) c h (v.1 (m tt)) in
        let beyond : a < closest a b * b = m tt in
        absurd (omega (arith, none, beyond))
