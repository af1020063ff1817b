-- A float without its sign, as fabsf and f32::abs have it.
use Rattle.std.specs.Prelude.{Float, false}
use Rattle.std.specs.Float.{nan, inf, fin}

-- NaN stays NaN, and -0.0 becomes 0.0
unfoldable pub magnitude : Float → Float
magnitude nan = nan
magnitude (inf s) = inf false
magnitude (fin s m e) = fin false m e
