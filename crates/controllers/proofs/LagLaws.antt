-- The lag as a whole: a reset undoes every step, and an inversion of no steps answers what was desired.
use mathlib.Core.Path.{◌≡◌, refl}
use Rattle.linear.specs.declared.Vector2f.{Vector2f}
use Rattle.controllers.specs.declared.first_order_lag.FirstOrderLag.{FirstOrderLag}
use Rattle.controllers.specs.LagAxis.{iterated, axis_invert}
use Rattle.controllers.specs.FirstOrderLag.{axis, reset_of, stepped_of, inverted_of}

-- nothing but the state has changed
pub reset_step : (l : FirstOrderLag) (u : Vector2f) → reset_of (stepped_of l u) ≡ reset_of l
unfolding reset_of stepped_of
reset_step l u = refl

pub invert_none : (l : FirstOrderLag) (desired : Vector2f) → l.n_steps ≡ 0 → inverted_of l desired ≡ desired
unfolding inverted_of axis_invert iterated axis
invert_none l desired h = simp h
