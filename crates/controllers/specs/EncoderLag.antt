-- The encoder lag: the `FirstOrderLag` that control_context.rs makes for a tick length (docs/RULES.md, 'The encoder lag').
use Rattle.std.specs.Prelude.{ℕ, max, true, false, T, pos, Float, Result}
use Rattle.std.specs.Result.{result_map_both}
use Rattle.std.specs.Float.{fin, binary32}
use Rattle.std.specs.Float.Ieee.{of_int, to_unsigned, add, mul, div, lt, of_bits}
use Rattle.linear.specs.Vector.{zeros2}
use Rattle.params.specs.declared.TheConstants.{ENC_LAG_K, ENC_LAG_T_SLOPE, ENC_LAG_T_HORIZON, T_MIN_DEFAULT}
use Rattle.tick.specs.declared.refusal.Refusal.{Refusal}
use Rattle.tick.specs.TickLength.{tick_length_of, micros_of}
use Rattle.controllers.specs.declared.first_order_lag.FirstOrderLag.{FirstOrderLag}

-- whole microseconds in seconds: the nearest float, times 1e-6
unfoldable pub duration_to_secs : ℕ → Float
duration_to_secs micros = mul binary32 (of_int binary32 (pos micros)) (of_bits binary32 0x3586_37bd)

-- the horizon over dt, plus 0.5
unfoldable pub horizon_over : Float → Float
horizon_over dt = add binary32 (div binary32 (duration_to_secs ENC_LAG_T_HORIZON) dt) (of_bits binary32 0x3f00_0000)

-- -1 < x < 2^64: without its fraction x is a 64-bit number
abbrev pub Castable : Float → Type 0
Castable x = T (lt (fin true 1 (pos 0)) x) × T (lt x (fin false 1 (pos 64)))

-- the horizon in steps of dt: rounded to the nearest whole number, and 1 at least
unfoldable pub n_steps_of : Float → ℕ
n_steps_of dt = max 1 (to_unsigned 64 (horizon_over dt))

-- the lag's dt in seconds: floor(15625 * k / 64) microseconds
abbrev pub dt_of : ℕ → Float
dt_of k = duration_to_secs (micros_of k)

-- the lag at rest, both axes alike
unfoldable pub new_lag : ℕ → FirstOrderLag
new_lag k = record {
  params = record { k = record { x = ENC_LAG_K; y = ENC_LAG_K }; t_slope = record { x = ENC_LAG_T_SLOPE; y = ENC_LAG_T_SLOPE } };
  t_min = duration_to_secs T_MIN_DEFAULT;
  dt = dt_of k;
  n_steps = n_steps_of (dt_of k);
  state = zeros2;
}

-- the answer to a k: a lag where k is a tick length's
unfoldable pub lag_of : ℕ → Result FirstOrderLag Refusal
lag_of k = result_map_both new_lag (λ r. r) (tick_length_of k)
