-- Rotation by a given cosine and sine (docs/RULES.md, 'Products').
use Rattle.std.specs.Prelude.{[], ◌∷◌}
use Rattle.std.specs.Float.Ieee.{neg}
use Rattle.linear.specs.declared.Vector3f.{Vector3f}
use Rattle.linear.specs.declared.matrix.Matrix.{Matrix}
use Rattle.linear.specs.declared.rotation.Rotation.{Rotation}
use Rattle.linear.specs.Vector.{zero_float, one_float, entries3, vector3_of}
use Rattle.linear.specs.Matrix.{product_of}

-- rows (c, -s, 0), (s, c, 0), (0, 0, 1)
unfoldable pub z_rotation : Rotation → Matrix 3 3
z_rotation r = record {
  rows =
      (r.cos ∷ neg r.sin ∷ zero_float ∷ [])
      ∷ (r.sin ∷ r.cos ∷ zero_float ∷ [])
      ∷ (zero_float ∷ zero_float ∷ one_float ∷ [])
      ∷ [];
}

unfoldable pub to_global : Rotation → Vector3f → Vector3f
to_global r v = vector3_of (product_of (z_rotation r) (entries3 v))

-- to global by the opposite angle: the same cosine, the sine negated
unfoldable pub to_local : Rotation → Vector3f → Vector3f
to_local r v = to_global (record r { sin = neg r.sin }) v
