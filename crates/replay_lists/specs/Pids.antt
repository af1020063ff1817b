-- The lists of the PID controllers: what a header describes, and the answer to a call.
use Rattle.std.specs.Prelude.{ℕ, ◌+◌, ◌*◌, if◌then◌else◌, List, map, replicate, ◌==◌, Float, Option, None, Some}
use Rattle.std.specs.List.{range_with_len}
use Rattle.linear.specs.Vector.{zero_float}
use Rattle.params.specs.declared.PidGains.{PidGains}
use Rattle.controllers.specs.declared.pid.PidSettings.{PidSettings}
use Rattle.controllers.specs.PidAxes.{PidAnswer, new_memory, calculated, calculated_with_derivative}
use Rattle.tick_block.specs.Words.{word_at}
use Rattle.tick_block.specs.Floats.{float_at, floats_at}
use Rattle.replay_lists.specs.declared.runs.pids.Pid.{Pid}
use Rattle.replay_lists.specs.Words.{Told, words_of}
use Rattle.replay_lists.specs.Kinds.{by_kind3}

-- ---- the header: the number of calls; the gains, axis by axis; whether there is a threshold, and one for each axis; whether there are limits, the low ones and the high ones

unfoldable pub gains_at : List ℕ → ℕ → PidGains
gains_at s i =
    let at = 1 + 5 * i in
    record { kp = float_at s at; ki = float_at s (at + 1); kd = float_at s (at + 2); ki_err_min = float_at s (at + 3); ki_err_max = float_at s (at + 4) }

unfoldable pub thresh_at : List ℕ → ℕ → ℕ → Option Float
thresh_at s n i =
    let at = 1 + 5 * n in
    if word_at s at == 1 then Some (float_at s (at + 1 + i)) else None

unfoldable pub limits_at : List ℕ → ℕ → ℕ → Option (Float × Float)
limits_at s n i =
    let at = 2 + 6 * n in
    if word_at s at == 1 then Some (float_at s (at + 1 + i), float_at s (at + 1 + n + i)) else None

-- the settings of axis i of n
unfoldable pub settings_at : List ℕ → ℕ → ℕ → PidSettings
settings_at s n i = record { gain = gains_at s i; anti_jitter_thresh = thresh_at s n i; output_limits = limits_at s n i }

-- the controller, with nothing remembered
unfoldable pub pid_of : {n : ℕ} → List ℕ → Pid n
pid_of {n} s = record { settings = map (settings_at s n) (range_with_len 0 n); memory = new_memory }

-- ---- a call: its kind (0 `calculate`, 1 `calculate_with_derivative`, 2 `reset`), setpoint, process variable, derivative and dt. A reset's output is zero.

unfoldable pub answer : {n : ℕ} → Pid n → List ℕ → PidAnswer n
answer {n} p s =
    let setpoint = floats_at s 1 n in
    let process = floats_at s (1 + n) n in
    let derivative = floats_at s (1 + 2 * n) n in
    let dt = float_at s (1 + 3 * n) in
    by_kind3 (word_at s 0)
    (calculated p.settings p.memory setpoint process dt)
    (calculated_with_derivative p.settings p.memory setpoint process derivative dt)
    (record { output = replicate n zero_float; memory = new_memory })

unfoldable pub stepped : {n : ℕ} → Pid n → List ℕ → Told (Pid n)
stepped p s =
    let a = answer p s in
    record { words = words_of a.output a.memory; controller = record p { memory = a.memory } }
