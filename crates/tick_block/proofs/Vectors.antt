-- The vectors of a block are made of its floats.
use Rattle.std.proofs.Common.{◌≡◌, ℕ, List, add-zero}
use Rattle.linear.specs.Vector.{vector2_of, vector3_of, vector4_of}
use Rattle.tick_block.specs.Floats.{floats_at, vector2_at, vector3_at, vector4_at}

pub two : (s : List ℕ) (at : ℕ) → vector2_of (floats_at s at 2) ≡ vector2_at s at
unfolding vector2_of floats_at vector2_at
two s at = rw add-zero

pub three : (s : List ℕ) (at : ℕ) → vector3_of (floats_at s at 3) ≡ vector3_at s at
unfolding vector3_of floats_at vector3_at
three s at = rw add-zero

pub four : (s : List ℕ) (at : ℕ) → vector4_of (floats_at s at 4) ≡ vector4_at s at
unfolding vector4_of floats_at vector4_at
four s at = rw add-zero
