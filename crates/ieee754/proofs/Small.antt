-- Below y in size, x % y is x.
use mathlib.Core.Path.{◌≡◌, sym, subst}
use Prim.Native.Nat.{ℕ, ◌*◌, ◌<◌}
use native.Mathlib.Nat.{mod-eq_of_lt}
use mathlib.Core.Bool.{Bool, true, false, ◌&&◌, false≢true}
use lib.IntN.{ℤ}
use lib.Dec.{T, ltb, ltb→lt}
use lib.Ieee.{Float, nan, inf, fin, Format, down, neg, rem, lt, fits}
use lib.Ieee.Fits.{and_l, and_r, rem-fits}
use lib.Ieee.Exact.{HasValue}
use Rattle.ieee754.proofs.Same.{value_same}
use Rattle.ieee754.proofs.Grid.{over, both_pos}
use Rattle.ieee754.proofs.RemainderLaws.{operands, rem_exact}

rem_below : (f : Format) (s : Bool) (m : ℕ) (e : ℤ) (n : ℕ) (d : ℤ) → T (fits f (fin s m e)) → T (fits f (fin false n d)) → 0 < n → over m e d < over n d e → fin s m e ≡ rem f (fin s m e) (fin false n d)
rem_below f s m e n d X Y N h =
    let g = operands {f = f} {s = s} {t = false} {m = m} {n = n} {e = e} {d = d} X Y N in
    value_same f (fin s m e) (rem f (fin s m e) (fin false n d)) s (over m e d) (down e * down d) (both_pos e d) X (rem-fits f (fin s m e) (fin false n d) X) g.x_value
    (subst (λ (z : ℕ). HasValue (rem f (fin s m e) (fin false n d)) s z (down e * down d)) (mod-eq_of_lt h) (rem_exact g))

pub rem_small : (f : Format) (x : Float) (n : ℕ) (d : ℤ) → T (fits f x) → T (fits f (fin false n d)) → 0 < n → (lt (neg (fin false n d)) x && lt x (fin false n d)) ≡ true → x ≡ rem f x (fin false n d)
unfolding lt neg
rem_small f nan n d X Y N t = absurd (false≢true t)
rem_small f (inf true) n d X Y N t = absurd (false≢true t)
rem_small f (inf false) n d X Y N t = absurd (false≢true t)
rem_small f (fin true m e) n d X Y N t = rem_below f true m e n d X Y N (ltb→lt (over m e d) (over n d e) (and_l (ltb (over m e d) (over n d e)) (lt (fin true m e) (fin false n d)) (subst T (sym t) tt)))
rem_small f (fin false m e) n d X Y N t = rem_below f false m e n d X Y N (ltb→lt (over m e d) (over n d e) (and_r (lt (neg (fin false n d)) (fin false m e)) (ltb (over m e d) (over n d e)) (subst T (sym t) tt)))
