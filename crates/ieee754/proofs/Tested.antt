-- The hypotenuse by the tests in the code's order: two finite numbers before an infinity, which is 1.0 / 0.0 there as NaN is 0.0 / 0.0.
use mathlib.Core.Path.{◌≡◌, refl, ◌∙◌}
use mathlib.Core.Bool.{Bool, true, false, cond, ◌&&◌, ◌||◌}
use lib.Ieee.{Float, nan, inf, fin, binary32, div, lt, eq, is_nan, of_bits}
use Rattle.ieee754.specs.Magnitude.{magnitude}
use Rattle.ieee754.specs.Hypot.{hypotenuse, hypot_of, larger, smaller}

abbrev infinity : Float
infinity = div binary32 (of_bits binary32 0x3f80_0000) (of_bits binary32 0)

abbrev both_below : Float → Float → Bool
both_below p q = lt p infinity && lt q infinity

abbrev one_infinite : Float → Float → Bool
one_infinite p q = eq p infinity || eq q infinity

tested : (x y : Float)
    → hypotenuse x y
    ≡ (let p = magnitude x in
    let q = magnitude y in
    cond (lt p (inf false) && lt q (inf false)) (hypot_of (larger p q) (smaller p q)) (cond (eq p (inf false) || eq q (inf false)) (inf false) nan))
unfolding hypotenuse magnitude lt eq is_nan
tested nan nan = refl
tested nan (inf t) = refl
tested nan (fin t n d) = refl
tested (inf s) nan = refl
tested (inf s) (inf t) = refl
tested (inf s) (fin t n d) = refl
tested (fin s m e) nan = refl
tested (fin s m e) (inf t) = refl
tested (fin s m e) (fin t n d) = refl

pub finite_sides : (x y : Float) → both_below (magnitude x) (magnitude y) ≡ true → hypotenuse x y ≡ hypot_of (larger (magnitude x) (magnitude y)) (smaller (magnitude x) (magnitude y))
unfolding div of_bits
finite_sides x y e = tested x y ∙ rw e

pub infinite_side : (x y : Float) → both_below (magnitude x) (magnitude y) ≡ false → one_infinite (magnitude x) (magnitude y) ≡ true → hypotenuse x y ≡ infinity
unfolding div of_bits
infinite_side x y e i = tested x y ∙ rw (e, i)

pub nan_side : (x y : Float) → both_below (magnitude x) (magnitude y) ≡ false → one_infinite (magnitude x) (magnitude y) ≡ false → hypotenuse x y ≡ div binary32 (of_bits binary32 0) (of_bits binary32 0)
unfolding div of_bits
nan_side x y e i = tested x y ∙ rw (e, i)
