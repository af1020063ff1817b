-- 0.0 is positive zero; the dot product written out at the two widths in use: from the left, starting with the first product.
use mathlib.Core.Path.{◌≡◌, refl}
use lib.Ieee.{binary32, add, mul, of_bits, to_bits}
use Rattle.linear.specs.declared.Vector3f.{Vector3f}
use Rattle.linear.specs.declared.Vector4f.{Vector4f}
use Rattle.linear.specs.Vector.{zero_float, entries3, entries4, dot_of, add_products}

-- the zero of every vector of zeros has no bit set
pub zero_word : to_bits binary32 zero_float ≡ 0
unfolding to_bits of_bits
zero_word = refl

pub dot_of_three : (u v : Vector3f)
    → dot_of (entries3 u) (entries3 v) ≡ add binary32 (add binary32 (mul binary32 u.x v.x) (mul binary32 u.y v.y)) (mul binary32 u.z v.z)
unfolding dot_of add_products
dot_of_three u v = refl

-- one more product at the right, and nothing else
pub dot_of_four : (u v : Vector4f)
    → dot_of (entries4 u) (entries4 v)
    ≡ add binary32 (dot_of (entries3 (record { x = u.x; y = u.y; z = u.z })) (entries3 (record { x = v.x; y = v.y; z = v.z }))) (mul binary32 u.w v.w)
unfolding dot_of add_products
dot_of_four u v = refl
