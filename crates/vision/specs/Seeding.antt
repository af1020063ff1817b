-- What a seeding gathers, and when it is steady (docs/RULES.md, 'Seeding'). Every step is rounded to binary32.
use Rattle.std.specs.Prelude.{ℕ, ◌+◌, Bool, ◌&&◌, if◌then◌else◌, nat_lt, pos, Float}
use Rattle.std.specs.Float.{binary32}
use Rattle.std.specs.Float.Ieee.{of_int, add, sub, mul, div, lt}
use Rattle.ieee754.specs.Root.{square_root}
use Rattle.linear.specs.declared.Vector2f.{Vector2f}
use Rattle.linear.specs.declared.Vector3f.{Vector3f}
use Rattle.linear.specs.Vector.{zeros2}
use Rattle.params.specs.declared.TheConstants.{VISION_SEED_SAMPLES, VISION_SEED_POS_STD_THRESH_M}

-- how many sightings, the sums of their places, and of the squares
pub record Seeding : Type 0 where
  pub n : ℕ
  pub pos_sum : Vector2f
  pub pos_sq_sum : Vector2f

-- nothing gathered
abbrev pub fresh_seeding : Seeding
fresh_seeding = record { n = 0; pos_sum = zeros2; pos_sq_sum = zeros2 }

-- n and the four sums grow: of x and y, and of their squares
abbrev pub gathered : Seeding → Vector3f → Seeding
gathered s v = record {
  n = s.n + 1;
  pos_sum = record { x = add binary32 s.pos_sum.x v.x; y = add binary32 s.pos_sum.y v.y };
  pos_sq_sum = record {
    x = add binary32 s.pos_sq_sum.x (mul binary32 v.x v.x);
    y = add binary32 s.pos_sq_sum.y (mul binary32 v.y v.y);
  };
}

-- the deviation of n samples: the root of the mean square less the mean's square. A variance below zero has the root NaN.
abbrev pub deviation : Float → Float → Float → Float
deviation sum squares n =
    let mean = div binary32 sum n in
    square_root binary32 (sub binary32 (div binary32 squares n) (mul binary32 mean mean))

abbrev pub deviation_x : Seeding → Float
deviation_x s = deviation s.pos_sum.x s.pos_sq_sum.x (of_int binary32 (pos s.n))

abbrev pub deviation_y : Seeding → Float
deviation_y s = deviation s.pos_sum.y s.pos_sq_sum.y (of_int binary32 (pos s.n))

-- both deviations are strictly below 0.03 m; a NaN is below nothing
abbrev pub steady : Seeding → Bool
steady s = lt (deviation_x s) VISION_SEED_POS_STD_THRESH_M && lt (deviation_y s) VISION_SEED_POS_STD_THRESH_M

-- the seeding that stays after it has gathered: at the 20th sighting a fresh one
abbrev pub kept_seeding : Seeding → Seeding
kept_seeding s = if nat_lt s.n VISION_SEED_SAMPLES then s else fresh_seeding
