-- What holds of the products of matrices and vectors and of the two rotations: each statement is a clause of a function of src/laws.rt.
use Rattle.std.specs.Prelude.{◌≡◌, Bool, [], ◌∷◌, Float}
use Rattle.std.specs.Float.{nan, inf, binary32}
use Rattle.std.specs.Float.Ieee.{add, mul, neg}
use Rattle.linear.specs.declared.Vector3f.{Vector3f}
use Rattle.linear.specs.declared.Vector4f.{Vector4f}
use Rattle.linear.specs.Vector.{zero_float, one_float, entries3, entries4, dot_of}
use Rattle.linear.specs.declared.rotation.Rotation.{Rotation}
use Rattle.linear.specs.Rotation.{z_rotation, to_global, to_local}

-- ---- products

-- a row of three entries is summed from the left, from its first product on
abbrev pub DotOfThree : Type 0
DotOfThree =
    (u v : Vector3f)
    → dot_of (entries3 u) (entries3 v)
    ≡ add binary32 (add binary32 (mul binary32 u.x v.x) (mul binary32 u.y v.y)) (mul binary32 u.z v.z)

-- and one of four has one more product at the right
abbrev pub DotOfFour : Type 0
DotOfFour =
    (u v : Vector4f)
    → dot_of (entries4 u) (entries4 v)
    ≡ add binary32
    (dot_of (entries3 (record { x = u.x; y = u.y; z = u.z })) (entries3 (record { x = v.x; y = v.y; z = v.z })))
    (mul binary32 u.w v.w)

-- zeros included: an infinite third entry, which the third column's zeros meet, makes the other two NaN
abbrev pub ZerosAreSummed : Type 0
ZerosAreSummed =
    (r : Rotation) (x y : Float) (b : Bool)
    → ((to_global r (record { x = x; y = y; z = inf b })).x ≡ nan) × ((to_global r (record { x = x; y = y; z = inf b })).y ≡ nan)

-- ---- rotations

-- by the opposite angle: the same cosine, the sine negated
abbrev pub opposite : Rotation → Rotation
opposite r = record { cos = r.cos; sin = neg r.sin }

-- to local is to global with the sine negated
abbrev pub LocalIsGlobal : Type 0
LocalIsGlobal = (r : Rotation) (v : Vector3f) → to_local r v ≡ to_global (opposite r) v

-- so its rows are (c, s, 0), (-s, c, 0), (0, 0, 1)
abbrev pub LocalRows : Type 0
LocalRows =
    (r : Rotation)
    → z_rotation (opposite r)
    ≡ record {
      rows =
          (r.cos ∷ r.sin ∷ zero_float ∷ [])
          ∷ (neg r.sin ∷ r.cos ∷ zero_float ∷ [])
          ∷ (zero_float ∷ zero_float ∷ one_float ∷ [])
          ∷ [];
    }
