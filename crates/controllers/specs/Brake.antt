-- active_brake.rs over the PID controller of four axes, one for each wheel.
use Rattle.std.specs.Prelude.{ℕ, Some, Result, replicate}
use Rattle.std.specs.Result.{result_map_both}
use Rattle.std.specs.Float.Ieee.{neg}
use Rattle.linear.specs.declared.Vector4f.{Vector4f}
use Rattle.linear.specs.Vector.{zero_float, entries4, vector4_of}
use Rattle.params.specs.declared.TheConstants.{BRAKE_KP, BRAKE_ANTI_JITTER_RADS, BRAKE_MAX_CURRENT_A}
use Rattle.tick.specs.declared.refusal.Refusal.{Refusal}
use Rattle.tick.specs.TickLength.{tick_length_of, seconds_of}
use Rattle.controllers.specs.declared.pid.PidSettings.{PidSettings}
use Rattle.controllers.specs.declared.pid.PidMemory.{PidMemory}
use Rattle.controllers.specs.PidAxes.{calculated, new_memory}
use Rattle.controllers.specs.declared.active_brake.ActiveBrakeController.{ActiveBrakeController}

-- one wheel: Kp alone, scaled toward zero below BRAKE_ANTI_JITTER_RADS, and held to ±BRAKE_MAX_CURRENT_A
unfoldable pub wheel_settings : PidSettings
wheel_settings = record {
  gain = record { kp = BRAKE_KP; ki = zero_float; kd = zero_float; ki_err_min = zero_float; ki_err_max = zero_float };
  anti_jitter_thresh = Some BRAKE_ANTI_JITTER_RADS;
  output_limits = Some (neg BRAKE_MAX_CURRENT_A, BRAKE_MAX_CURRENT_A);
}

-- what it remembers of the wheels
abbrev pub memory_of : ActiveBrakeController → PidMemory 4
memory_of b = b.pid

-- the currents, and the brake after the call
pub record BrakeAnswer : Type 0 where
  pub currents : Vector4f
  pub controller : ActiveBrakeController

-- a brake that remembers nothing, for the tick length k
unfoldable pub new_brake : ℕ → ActiveBrakeController
new_brake k = record { pid = new_memory; tick_length = k }

-- the answer to a k: a brake where k is a tick length's
unfoldable pub brake_of : ℕ → Result ActiveBrakeController Refusal
brake_of k = result_map_both new_brake (λ r. r) (tick_length_of k)

-- the setpoint is rest, the process variable the measured speed
unfoldable pub computed : ActiveBrakeController → Vector4f → BrakeAnswer
computed b speeds =
    let a = calculated (replicate 4 wheel_settings) b.pid (replicate 4 zero_float) (entries4 speeds) (seconds_of b.tick_length) in
    record { currents = vector4_of a.output; controller = record b { pid = a.memory } }

unfoldable pub reset_brake : ActiveBrakeController → ActiveBrakeController
reset_brake b = record b { pid = new_memory }
