-- What the two rotations have to do with each other, and that their zeros count.
use mathlib.Core.Path.{◌≡◌, refl}
use mathlib.Core.Bool.{Bool, true, false}
use mathlib.Core.List.{[], ◌∷◌}
use lib.Ieee.{Float, nan, inf, fin, binary32, add, mul, neg, of_bits}
use Rattle.linear.specs.declared.Vector3f.{Vector3f}
use Rattle.linear.specs.declared.rotation.Rotation.{Rotation}
use Rattle.linear.specs.Vector.{zero_float, one_float, vector3_of, dot_of, add_products}
use Rattle.linear.specs.Matrix.{product_of}
use Rattle.linear.specs.Rotation.{z_rotation, to_global, to_local}
use Rattle.linear.specs.Laws.{opposite}

-- to local is to global with s negated
pub local_is_global : (r : Rotation) (v : Vector3f) → to_local r v ≡ to_global (opposite r) v
unfolding to_local to_global
local_is_global r v = refl

neg-neg : (x : Float) → neg (neg x) ≡ x
unfolding neg
neg-neg nan = refl
neg-neg (inf true) = refl
neg-neg (inf false) = refl
neg-neg (fin true m e) = refl
neg-neg (fin false m e) = refl

-- so its rows are (c, s, 0), (-s, c, 0), (0, 0, 1)
pub local_rows : (r : Rotation)
    → z_rotation (opposite r)
    ≡ record {
      rows =
          (r.cos ∷ r.sin ∷ zero_float ∷ [])
          ∷ (neg r.sin ∷ r.cos ∷ zero_float ∷ [])
          ∷ (zero_float ∷ zero_float ∷ one_float ∷ [])
          ∷ [];
    }
unfolding z_rotation
local_rows r = rw neg-neg

add-nan : (x : Float) → add binary32 x nan ≡ nan
unfolding add
add-nan nan = refl
add-nan (inf s) = refl
add-nan (fin s m e) = refl

-- the zeros of the third column are not left out: an infinite third entry makes the other two NaN
pub infinite_third : (r : Rotation) (x y : Float) (b : Bool)
    → ((to_global r (record { x = x; y = y; z = inf b })).x ≡ nan) × ((to_global r (record { x = x; y = y; z = inf b })).y ≡ nan)
unfolding to_global vector3_of product_of z_rotation dot_of add_products mul of_bits
infinite_third r x y b = (add-nan _, add-nan _)
