-- The stop state's speed (docs/RULES.md, 'Stop and limits').
use Rattle.std.specs.Prelude.{Bool, if◌then◌else◌, ◌&&◌, Float}
use Rattle.std.specs.Float.{binary32}
use Rattle.std.specs.Float.Ieee.{add, mul, div, lt}
use Rattle.ieee754.specs.Root.{square_root}
use Rattle.linear.specs.declared.Vector3f.{Vector3f}
use Rattle.params.specs.declared.TheConstants.{STOP_STATE_LINEAR_SPEED_LIMIT}

-- the linear speed: the root of x·x + y·y
abbrev pub norm_xy : Vector3f → Float
norm_xy v = square_root binary32 (add binary32 (mul binary32 v.x v.x) (mul binary32 v.y v.y))

-- x and y times k
abbrev pub scaled_xy : Float → Vector3f → Vector3f
scaled_xy k v = record v { x = mul binary32 v.x k; y = mul binary32 v.y k }

-- stop scales a linear speed above 1.25 m/s down to it
unfoldable pub stop_scaled : Bool → Vector3f → Vector3f
stop_scaled stop twist =
    if stop && lt STOP_STATE_LINEAR_SPEED_LIMIT (norm_xy twist) then scaled_xy (div binary32 STOP_STATE_LINEAR_SPEED_LIMIT (norm_xy twist)) twist
    else twist
