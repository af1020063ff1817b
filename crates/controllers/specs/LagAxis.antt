-- model/mod.rs on one axis: the lag's time constant, one timestep, and the inversion by n turns of one recurrence. Every operation is rounded to binary32.
use Rattle.std.specs.Prelude.{ℕ, zero, suc, Float}
use Rattle.std.specs.Float.{binary32}
use Rattle.std.specs.Float.Ieee.{add, sub, mul, div}
use Rattle.ieee754.specs.Magnitude.{magnitude}
use Rattle.linear.specs.Vector.{one_float}
use Rattle.controllers.specs.declared.first_order_lag.axis.Axis.{Axis}

-- 1 / T_eff(u), where T_eff(u) = t_slope * |u| + t_min
unfoldable pub one_over_t : Axis → Float → Float
one_over_t s u = div binary32 one_float (add binary32 (mul binary32 s.t_slope (magnitude u)) s.t_min)

-- `step`: the state moves by 1 / T_eff * dt * (K * u - state)
unfoldable pub axis_step : Axis → Float → Float
axis_step s u = add binary32 s.state (mul binary32 (mul binary32 (one_over_t s u) s.dt) (sub binary32 (mul binary32 s.k u) s.state))

-- n turns of f
unfoldable pub iterated : ℕ → (Float → Float) → Float → Float
iterated zero f x = x
iterated (suc n) f x = f (iterated n f x)

-- one turn of `invert`: (1 - a) * cmd + target
abbrev pub lag_turn : Float → Float → Float → Float
lag_turn one_minus_a target cmd = add binary32 (mul binary32 one_minus_a cmd) target

-- `invert`: n_steps turns from `desired`, with a = dt * K / T_eff and target = desired - state * (1 - dt / T_eff), both at T_eff(desired)
unfoldable pub axis_invert : Axis → Float → Float
axis_invert s desired =
    let one_over = one_over_t s desired in
    let a = mul binary32 (mul binary32 s.dt s.k) one_over in
    let target = sub binary32 desired (mul binary32 s.state (sub binary32 one_float (mul binary32 s.dt one_over))) in
    iterated s.n_steps (lag_turn (sub binary32 one_float a) target) desired
