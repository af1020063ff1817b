-- Where the two clamps differ, at NaN, and that each answers within its bounds, f32's unless it is given a NaN.
use mathlib.Core.Path.{◌≡◌, refl, sym}
use mathlib.Core.Logic.{◌⊎◌, inl, inr}
use Prim.Native.Nat.{ℕ, ◌+◌, ◌*◌}
use native.Mathlib.Omega.{arith}
use mathlib.Core.Bool.{Bool, true, false, not, cond, ◌&&◌, ◌||◌, true≢false}
use borrow.Author.Tests.{ltb-false, eq-eqb}
use lib.Dec.{T, ltb, eqb, eqb_refl}
use lib.Ieee.{Float, nan, inf, fin, up, down, below, level, lt, le, eq, neg, is_nan}
use lib.Ieee.Fits.{and_i}
use Rattle.ieee754.specs.Clamp.{clamp_between, clamp_within}

-- the clamp of pid.rs gives its lower bound at NaN
pub clamp_nan : (lo hi : Float) → clamp_between nan lo hi ≡ lo
unfolding clamp_between lt
clamp_nan nan hi = refl
clamp_nan (inf s) hi = refl
clamp_nan (fin s m e) hi = refl

-- f32's clamp keeps NaN
pub clamp_within_nan : (bound : Float) → clamp_within nan bound ≡ nan
unfolding clamp_within lt neg
clamp_within_nan nan = refl
clamp_within_nan (inf s) = refl
clamp_within_nan (fin s m e) = refl

-- ---- the answer lies between the bounds, where these are in order

same_size : (x : ℕ) (p : Bool) → T (p || (eqb x x && true))
same_size x true = tt
same_size x false = and_i (eqb x x) true (eqb_refl x) tt

-- a number is at most itself
le_itself : (x : Float) → T (not (is_nan x)) → T (le x x)
unfolding le is_nan
le_itself nan h = absurd h
le_itself (inf true) h = tt
le_itself (inf false) h = tt
le_itself (fin true m e) h = same_size (m * up e * down e) (ltb (m * up e * down e) (m * up e * down e))
le_itself (fin false m e) h = same_size (m * up e * down e) (ltb (m * up e * down e) (m * up e * down e))

-- what compares is a number
le_numbers : (x y : Float) → T (le x y) → T (not (is_nan x)) × T (not (is_nan y))
unfolding le is_nan
le_numbers nan y h = absurd h
le_numbers (inf s) nan h = absurd h
le_numbers (inf s) (inf t) h = (tt, tt)
le_numbers (inf s) (fin t n d) h = (tt, tt)
le_numbers (fin s m e) nan h = absurd h
le_numbers (fin s m e) (inf t) h = (tt, tt)
le_numbers (fin s m e) (fin t n d) h = (tt, tt)

lt-le : (x y : Float) → lt x y ≡ true → T (le x y)
unfolding le
lt-le x y e = rw e tt

-- the clamp of pid.rs lies between its bounds, whatever it is given
pub clamp_between_lem : (v lo hi : Float) → T (le lo hi) → T (le lo (clamp_between v lo hi)) × T (le (clamp_between v lo hi) hi)
unfolding clamp_between
clamp_between_lem v lo hi h = go (lt lo v) (lt v hi) refl refl
  where
    go : (p q : Bool) → lt lo v ≡ p → lt v hi ≡ q → T (le lo (cond p (cond q v hi) lo)) × T (le (cond p (cond q v hi) lo) hi)
    go true true a b = (lt-le lo v a, lt-le v hi b)
    go true false a b = (h, le_itself hi (le_numbers lo hi h).1)
    go false q a b = (le_itself lo (le_numbers lo hi h).0, h)

-- ---- the same of f32's clamp, which leaves a number alone that is neither below the one bound nor above the other

-- b is at most a where a is not below it
at_most : (a b : ℕ) (q : Bool) → ltb a b ≡ false → (a ≡ b → q ≡ true) → T (ltb b a || (q && true))
at_most a b q h same = go (ltb b a) refl
  where
    go : (p : Bool) → ltb b a ≡ p → T (p || (q && true))
    go true e = tt
    go false e = rw (same (omega (arith, ltb-false a b h, ltb-false b a e))) tt

-- both are zero
zeros : (a b n : ℕ) → n ≡ a + b → ltb 0 n ≡ false → T (eqb b a && eqb b 0)
zeros a b n sum h = rw (eq-eqb b a (omega (arith, ltb-false 0 n h)), eq-eqb b 0 (omega (arith, ltb-false 0 n h))) tt

-- ±b is at most ±a where ±a is not below it
signed_at_most : (s t : Bool) (a b : ℕ) → below s a t b ≡ false → T (below t b s a || level t b s a)
signed_at_most false false a b h = at_most a b (eqb b a) h (λ e. eq-eqb b a (sym e))
signed_at_most false true a b h = go (ltb 0 (b + a)) refl
  where
    go : (p : Bool) → ltb 0 (b + a) ≡ p → T (p || (eqb b a && eqb b 0))
    go true e = tt
    go false e = zeros a b (b + a) (omega arith) e
signed_at_most true false a b h = zeros a b (a + b) refl h
signed_at_most true true a b h = at_most b a (eqb b a) h (eq-eqb b a)

-- a number is at most another that is not below it
not-below : (x y : Float) → T (not (is_nan x)) → T (not (is_nan y)) → lt y x ≡ false → T (le x y)
unfolding lt le eq is_nan
not-below nan y p q h = absurd p
not-below (inf s) nan p q h = absurd q
not-below (inf true) (inf true) p q h = tt
not-below (inf true) (inf false) p q h = tt
not-below (inf false) (inf true) p q h = absurd (true≢false h)
not-below (inf false) (inf false) p q h = tt
not-below (inf true) (fin t n d) p q h = tt
not-below (inf false) (fin t n d) p q h = absurd (true≢false h)
not-below (fin s m e) nan p q h = absurd q
not-below (fin s m e) (inf true) p q h = absurd (true≢false h)
not-below (fin s m e) (inf false) p q h = tt
not-below (fin s m e) (fin t n d) p q h = signed_at_most t s (n * up d * down e) (m * up e * down d) h

number_within : (v bound : Float) → T (not (is_nan v)) → T (le (neg bound) bound) → T (le (neg bound) (clamp_within v bound)) × T (le (clamp_within v bound) bound)
unfolding clamp_within
number_within v bound n h = go (lt v (neg bound)) (lt bound (cond (lt v (neg bound)) (neg bound) v)) refl refl
  where
    numbers : T (not (is_nan (neg bound))) × T (not (is_nan bound))
    numbers = le_numbers (neg bound) bound h

    go : (p q : Bool) → lt v (neg bound) ≡ p → lt bound (cond p (neg bound) v) ≡ q → T (le (neg bound) (cond q bound (cond p (neg bound) v))) × T (le (cond q bound (cond p (neg bound) v)) bound)
    go p true a b = (h, le_itself bound numbers.1)
    go true false a b = (le_itself (neg bound) numbers.0, h)
    go false false a b = (not-below (neg bound) v numbers.0 n a, not-below v bound n numbers.1 b)

-- f32's clamp is NaN, or it lies between -bound and bound, where these are in order
pub clamp_within_within : (v bound : Float) → T (le (neg bound) bound) → (clamp_within v bound ≡ nan) ⊎ (T (le (neg bound) (clamp_within v bound)) × T (le (clamp_within v bound) bound))
unfolding is_nan
clamp_within_within nan bound h = inl (clamp_within_nan bound)
clamp_within_within (inf s) bound h = inr (number_within (inf s) bound tt h)
clamp_within_within (fin s m e) bound h = inr (number_within (fin s m e) bound tt h)
