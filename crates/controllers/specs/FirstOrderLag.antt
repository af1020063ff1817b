-- `FirstOrderLag` of model/mod.rs over two axes: the calls on one.
use Rattle.std.specs.Prelude.{Float}
use Rattle.linear.specs.declared.Vector2f.{Vector2f}
use Rattle.linear.specs.Vector.{zeros2}
use Rattle.controllers.specs.declared.first_order_lag.axis.Axis.{Axis}
use Rattle.controllers.specs.declared.first_order_lag.FirstOrderLag.{FirstOrderLag}
use Rattle.controllers.specs.LagAxis.{axis_step, axis_invert}

-- each axis has its own gain, slope and state
unfoldable pub axis : FirstOrderLag → Float → Float → Float → Axis
axis l k t_slope state = record { k = k; t_slope = t_slope; t_min = l.t_min; dt = l.dt; n_steps = l.n_steps; state = state }

abbrev pub x_axis : FirstOrderLag → Axis
x_axis l = axis l l.params.k.x l.params.t_slope.x l.state.x

abbrev pub y_axis : FirstOrderLag → Axis
y_axis l = axis l l.params.k.y l.params.t_slope.y l.state.y

-- the lag with another state
abbrev pub with_state : FirstOrderLag → Vector2f → FirstOrderLag
with_state l v = record l { state = v }

-- `reset`
unfoldable pub reset_of : FirstOrderLag → FirstOrderLag
reset_of l = with_state l zeros2

-- `step`
unfoldable pub stepped_of : FirstOrderLag → Vector2f → FirstOrderLag
stepped_of l u = with_state l (record { x = axis_step (x_axis l) u.x; y = axis_step (y_axis l) u.y })

-- `invert`
unfoldable pub inverted_of : FirstOrderLag → Vector2f → Vector2f
inverted_of l desired = record { x = axis_invert (x_axis l) desired.x; y = axis_invert (y_axis l) desired.y }
