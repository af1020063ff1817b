-- Words of a block read as floats, one by one and by vectors.
use Rattle.std.specs.Prelude.{ℕ, ◌+◌, List, map, Float}
use Rattle.std.specs.Float.{binary32}
use Rattle.std.specs.Float.Ieee.{of_bits}
use Rattle.std.specs.List.{range_with_len}
use Rattle.linear.specs.declared.Vector2f.{Vector2f}
use Rattle.linear.specs.declared.Vector3f.{Vector3f}
use Rattle.linear.specs.declared.Vector4f.{Vector4f}
use Rattle.linear.specs.declared.Vector6f.{Vector6f}
use Rattle.linear.specs.Vector.{vector6_of}
use Rattle.tick_block.specs.Words.{word_at}

-- the float whose bits are word i
unfoldable pub float_at : List ℕ → ℕ → Float
float_at s i = of_bits binary32 (word_at s i)

-- the floats of n words, from word `at` on
unfoldable pub floats_at : List ℕ → ℕ → ℕ → List Float
floats_at s at n = map (λ i. float_at s (at + i)) (range_with_len 0 n)

-- the vectors whose entries are the words from `at` on
unfoldable pub vector2_at : List ℕ → ℕ → Vector2f
vector2_at s at = record { x = float_at s at; y = float_at s (at + 1) }

unfoldable pub vector3_at : List ℕ → ℕ → Vector3f
vector3_at s at = record { x = float_at s at; y = float_at s (at + 1); z = float_at s (at + 2) }

unfoldable pub vector4_at : List ℕ → ℕ → Vector4f
vector4_at s at = record { x = float_at s at; y = float_at s (at + 1); z = float_at s (at + 2); w = float_at s (at + 3) }

-- x, y and heading, then their velocities
unfoldable pub vector6_at : List ℕ → ℕ → Vector6f
vector6_at s at = vector6_of (floats_at s at 6)
