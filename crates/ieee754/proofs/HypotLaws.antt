-- The hypotenuse of two floats that binary32 holds is the same in both orders.
use mathlib.Core.Path.{◌≡◌, refl}
use Prim.Native.Nat.{◌*◌}
use native.Mathlib.Omega.{arith}
use mathlib.Core.Bool.{Bool, true, false, not, cond}
use lib.Dec.{T, ltb, ltb→lt, nltb→le}
use lib.Ieee.{Float, nan, inf, fin, binary32, up, down, lt, fits, is_nan}
use Rattle.ieee754.specs.Magnitude.{magnitude}
use Rattle.ieee754.specs.Hypot.{hypotenuse, hypot_of, larger, smaller}
use Rattle.ieee754.proofs.Same.{size_same}
use Rattle.ieee754.proofs.Magnitudes.{magnitude-fits}

-- p and q say which of a and b is below the other: never both, and a and b are one float where neither
either_order : (a b : Float) (p q : Bool) → (T p → T q → ⊥) → (T (not p) → T (not q) → a ≡ b) → hypot_of (cond p b a) (cond q b a) ≡ hypot_of (cond q a b) (cond p a b)
either_order a b true true both neither = absurd (both tt tt)
either_order a b true false both neither = refl
either_order a b false true both neither = refl
either_order a b false false both neither = rw (neither tt tt)

-- the order of the two sides does not matter
pub hypotenuse_comm : (x y : Float) → T (fits binary32 x) → T (fits binary32 y) → hypotenuse x y ≡ hypotenuse y x
unfolding hypotenuse larger smaller magnitude lt is_nan
hypotenuse_comm nan nan h k = refl
hypotenuse_comm nan (inf t) h k = refl
hypotenuse_comm nan (fin t n d) h k = refl
hypotenuse_comm (inf s) nan h k = refl
hypotenuse_comm (inf s) (inf t) h k = refl
hypotenuse_comm (inf s) (fin t n d) h k = refl
hypotenuse_comm (fin s m e) nan h k = refl
hypotenuse_comm (fin s m e) (inf t) h k = refl
hypotenuse_comm (fin s m e) (fin t n d) h k =
    let a = m * up e * down d in
    let b = n * up d * down e in
    either_order (fin false m e) (fin false n d) (ltb a b) (ltb b a)
    (λ u v. omega (arith, ltb→lt a b u, ltb→lt b a v))
    (λ u v. size_same binary32 false m e n d (magnitude-fits binary32 (fin s m e) h) (magnitude-fits binary32 (fin t n d) k) (omega (arith, nltb→le a b u, nltb→le b a v)))
