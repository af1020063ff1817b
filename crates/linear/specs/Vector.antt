-- 0.0 and 1.0; zeros, sums, differences, multiples and dot products of vectors, every step rounded to binary32; and a vector from its entries, and they from it.
use Rattle.std.specs.Prelude.{ℕ, List, [], ◌∷◌, slice_index_or, Float}
use Rattle.std.specs.Float.{binary32}
use Rattle.std.specs.Float.Ieee.{add, sub, mul, of_bits}
use Rattle.linear.specs.declared.Vector2f.{Vector2f}
use Rattle.linear.specs.declared.Vector3f.{Vector3f}
use Rattle.linear.specs.declared.Vector4f.{Vector4f}
use Rattle.linear.specs.declared.Vector6f.{Vector6f}

-- ---- 0.0 and 1.0, and zeros

-- 0.0
abbrev pub zero_float : Float
zero_float = of_bits binary32 0

-- 1.0
abbrev pub one_float : Float
one_float = of_bits binary32 0x3f80_0000

unfoldable pub zeros2 : Vector2f
zeros2 = record { x = zero_float; y = zero_float }

unfoldable pub zeros3 : Vector3f
zeros3 = record { x = zero_float; y = zero_float; z = zero_float }

unfoldable pub zeros4 : Vector4f
zeros4 = record { x = zero_float; y = zero_float; z = zero_float; w = zero_float }

unfoldable pub zeros6 : Vector6f
zeros6 = record { pose = zeros3; twist = zeros3 }

-- ---- entry by entry

unfoldable pub sum_of : Vector3f → Vector3f → Vector3f
sum_of u v = record { x = add binary32 u.x v.x; y = add binary32 u.y v.y; z = add binary32 u.z v.z }

unfoldable pub difference_of : Vector3f → Vector3f → Vector3f
difference_of u v = record { x = sub binary32 u.x v.x; y = sub binary32 u.y v.y; z = sub binary32 u.z v.z }

-- each entry times k
unfoldable pub scaled : Vector3f → Float → Vector3f
scaled v k = record { x = mul binary32 v.x k; y = mul binary32 v.y k; z = mul binary32 v.z k }

-- ---- vectors and lists of their entries

abbrev pub entries2 : Vector2f → List Float
entries2 v = v.x ∷ v.y ∷ []

abbrev pub entries3 : Vector3f → List Float
entries3 v = v.x ∷ v.y ∷ v.z ∷ []

abbrev pub entries4 : Vector4f → List Float
entries4 v = v.x ∷ v.y ∷ v.z ∷ v.w ∷ []

abbrev pub entry : List Float → ℕ → Float
entry l i = slice_index_or l i zero_float

-- the vector with these entries
unfoldable pub vector2_of : List Float → Vector2f
vector2_of l = record { x = entry l 0; y = entry l 1 }

unfoldable pub vector3_of : List Float → Vector3f
vector3_of l = record { x = entry l 0; y = entry l 1; z = entry l 2 }

unfoldable pub vector4_of : List Float → Vector4f
vector4_of l = record { x = entry l 0; y = entry l 1; z = entry l 2; w = entry l 3 }

-- six of state: x, y, heading, their velocities
unfoldable pub vector6_of : List Float → Vector6f
vector6_of l = record {
  pose = record { x = entry l 0; y = entry l 1; z = entry l 2 };
  twist = record { x = entry l 3; y = entry l 4; z = entry l 5 };
}

-- ---- the dot product, at every width

-- s, then the products of the entries added one by one, the leftmost first
unfoldable pub add_products : Float → List Float → List Float → Float
add_products s [] ys = s
add_products s (x ∷ xs) [] = s
add_products s (x ∷ xs) (y ∷ ys) = add_products (add binary32 s (mul binary32 x y)) xs ys

-- The products summed from the left: the sum starts with the first product, and not with 0.0. No product is left out.
unfoldable pub dot_of : List Float → List Float → Float
dot_of [] ys = zero_float
dot_of (x ∷ xs) [] = zero_float
dot_of (x ∷ xs) (y ∷ ys) = add_products (mul binary32 x y) xs ys
