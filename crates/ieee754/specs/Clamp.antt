-- The two clamps (docs/RULES.md, 'The two clamps'). They differ at NaN.
use Rattle.std.specs.Prelude.{if◌then◌else◌, Float}
use Rattle.std.specs.Float.Ieee.{lt, neg}

-- `clamp` of pid.rs: v > lo gives v if v < hi, else hi; otherwise lo. So NaN gives lo.
unfoldable pub clamp_between : Float → Float → Float → Float
clamp_between v lo hi = if lt lo v then (if lt v hi then v else hi) else lo

-- `f32::clamp` of body_controller.rs, to -bound and bound: below -bound gives -bound, then above bound gives bound. So NaN stays NaN.
unfoldable pub clamp_within : Float → Float → Float
clamp_within v bound = let least = if lt v (neg bound) then neg bound else v in if lt bound least then bound else least
