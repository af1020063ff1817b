-- One axis: what the integrated error, the output limits and the anti-jitter threshold do.
use mathlib.Core.Path.{◌≡◌, refl}
use mathlib.Core.Bool.{Bool, true, false, cond, ◌&&◌}
use lib.Dec.{T}
use lib.Ieee.{Float, binary32, mul, div, lt, le}
use Rattle.ieee754.specs.Magnitude.{magnitude}
use Rattle.std.proofs.lemmas.Float.{le_trans}
use Rattle.ieee754.specs.Clamp.{clamp_between}
use Rattle.ieee754.proofs.ClampLaws.{clamp_between_lem}
use Rattle.linear.specs.Vector.{zero_float}
use Rattle.controllers.specs.declared.pid.PidSettings.{PidSettings}
use Rattle.controllers.specs.declared.pid.AxisMemory.{AxisMemory}
use Rattle.std.specs.Prelude.{Option, None, Some}
use Rattle.controllers.specs.Axis.{anti_jitter, limited, response, one_calculated, one_with_derivative}
use Rattle.controllers.specs.Axes.{Ask, answer, calculate, calculate_with_derivative}
use Rattle.controllers.specs.PidLaws.{EnclosesZero, Bounded, Ordered, Inside, without_limits, error_of, gains_only}

-- ---- the integrated error

-- an answer leaves it within bounds that enclose 0.0, wherever it was
pub answer_bounded : (p : Ask Float) (c : PidSettings) (m : AxisMemory) → EnclosesZero c → Bounded c (answer p c m).memory
unfolding one_calculated one_with_derivative response
answer_bounded p c m z = go p
  where
    within : (x : Float) → T (le c.gain.ki_err_min (clamp_between x c.gain.ki_err_min c.gain.ki_err_max)) × T (le (clamp_between x c.gain.ki_err_min c.gain.ki_err_max) c.gain.ki_err_max)
    within x = clamp_between_lem x c.gain.ki_err_min c.gain.ki_err_max (le_trans c.gain.ki_err_min zero_float c.gain.ki_err_max z.below z.above)

    go : (p : Ask Float) → Bounded c (answer p c m).memory
    go (calculate s v dt) = record { least = (within _).0; most = (within _).1 }
    go (calculate_with_derivative s v d dt) = record { least = (within _).0; most = (within _).1 }

-- ---- the output

-- with limits, every output is within them
limited_inside : (l : Option (Float × Float)) (out : Float) → Ordered l → Inside l (limited l out)
unfolding limited
limited_inside None out h = tt
limited_inside (Some w) out h = clamp_between_lem out w.0 w.1 h

pub answer_inside : (p : Ask Float) (c : PidSettings) (m : AxisMemory) → Ordered c.output_limits → Inside c.output_limits (answer p c m).output
unfolding one_calculated one_with_derivative response
answer_inside (calculate s v dt) c m h = limited_inside c.output_limits _ h
answer_inside (calculate_with_derivative s v d dt) c m h = limited_inside c.output_limits _ h

-- limits come last
pub answer_limited : (p : Ask Float) (c : PidSettings) (m : AxisMemory) → (answer p c m).output ≡ limited c.output_limits (answer p (without_limits c) m).output
unfolding one_calculated one_with_derivative response limited
answer_limited (calculate s v dt) c m = refl
answer_limited (calculate_with_derivative s v d dt) c m = refl

-- and before them the threshold
pub answer_gains : (p : Ask Float) (c : PidSettings) (m : AxisMemory) → (answer p c m).output ≡ limited c.output_limits (anti_jitter c.anti_jitter_thresh (answer p (gains_only c) m).output (error_of p))
unfolding one_calculated one_with_derivative response limited anti_jitter
answer_gains (calculate s v dt) c m = refl
answer_gains (calculate_with_derivative s v d dt) c m = refl

pub anti_jitter_below : (t out err : Float) → lt zero_float t ≡ true → lt (magnitude err) t ≡ true → anti_jitter (Some t) out err ≡ div binary32 (mul binary32 out (magnitude err)) t
unfolding anti_jitter
anti_jitter_below t out err p q = rw (p, q)

pub anti_jitter_from : (t out err : Float) → lt (magnitude err) t ≡ false → anti_jitter (Some t) out err ≡ out
unfolding anti_jitter
anti_jitter_from t out err q = go (lt zero_float t)
  where
    go : (b : Bool) → cond (b && lt (magnitude err) t) (div binary32 (mul binary32 out (magnitude err)) t) out ≡ out
    go true = rw q
    go false = refl
