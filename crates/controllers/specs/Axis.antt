-- pid.rs for one axis: the error's integral and derivative, the output with its anti-jitter and its limits, and what is remembered. Every step is rounded to binary32.
use Rattle.std.specs.Prelude.{if◌then◌else◌, ◌&&◌, Float, Option, None, Some}
use Rattle.std.specs.Float.{binary32}
use Rattle.std.specs.Float.Ieee.{add, sub, mul, div, lt}
use Rattle.ieee754.specs.Magnitude.{magnitude}
use Rattle.ieee754.specs.Clamp.{clamp_between}
use Rattle.linear.specs.Vector.{zero_float}
use Rattle.params.specs.declared.PidGains.{PidGains}
use Rattle.controllers.specs.declared.pid.PidSettings.{PidSettings}
use Rattle.controllers.specs.declared.pid.AxisMemory.{AxisMemory}

-- what a call answers, and what the axis remembers after it
pub record AxisAnswer : Type 0 where
  pub output : Float
  pub memory : AxisMemory

-- the output, scaled by |error| / threshold where |error| is below a threshold above zero
unfoldable pub anti_jitter : Option Float → Float → Float → Float
anti_jitter None out err = out
anti_jitter (Some t) out err = if lt zero_float t && lt (magnitude err) t then div binary32 (mul binary32 out (magnitude err)) t else out

-- the output within the limits, the lower one first, where there are any
unfoldable pub limited : Option (Float × Float) → Float → Float
limited None out = out
limited (Some w) out = clamp_between out w.0 w.1

-- the integrated error after an error e over dt, within its bounds
abbrev pub integrated : PidGains → AxisMemory → Float → Float → Float
integrated g m e dt = clamp_between (add binary32 m.integrated_error (mul binary32 e dt)) g.ki_err_min g.ki_err_max

-- p + i + d
abbrev pub weighted : PidGains → Float → Float → Float → Float
weighted g e i d = add binary32 (add binary32 (mul binary32 g.kp e) (mul binary32 g.ki i)) (mul binary32 g.kd d)

-- the answer to an error e with the derivative d
unfoldable pub response : PidSettings → AxisMemory → Float → Float → Float → AxisAnswer
response s m e d dt =
    let i = integrated s.gain m e dt in
    record {
      output = limited s.output_limits (anti_jitter s.anti_jitter_thresh (weighted s.gain e i d) e);
      memory = record { prev_error = e; integrated_error = i };
    }

-- with the derivative d given
unfoldable pub one_with_derivative : PidSettings → AxisMemory → Float → Float → Float → Float → AxisAnswer
one_with_derivative s m setpoint process d dt = response s m (sub binary32 setpoint process) d dt

-- the derivative is the error's difference from the previous one, over dt
unfoldable pub one_calculated : PidSettings → AxisMemory → Float → Float → Float → AxisAnswer
one_calculated s m setpoint process dt =
    let e = sub binary32 setpoint process in
    response s m e (div binary32 (sub binary32 e m.prev_error) dt) dt

-- nothing remembered
unfoldable pub no_memory : AxisMemory
no_memory = record { prev_error = zero_float; integrated_error = zero_float }
