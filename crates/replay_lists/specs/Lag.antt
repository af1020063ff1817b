-- The list of the encoder lag: the numbers that a header wants, the answer to a call, and what is compared after it.
use Rattle.std.specs.Prelude.{ℕ, Bool, if◌then◌else◌, ◌&&◌, List, ◌∷◌, replicate, ◌==◌, Option, Some, None, Result, Ok, Err}
use Rattle.linear.specs.declared.Vector2f.{Vector2f}
use Rattle.linear.specs.Vector.{zeros2, vector2_of}
use Rattle.controllers.specs.declared.first_order_lag.FirstOrderLag.{FirstOrderLag}
use Rattle.tick.specs.declared.refusal.Refusal.{Refusal}
use Rattle.controllers.specs.EncoderLag.{lag_of}
use Rattle.controllers.specs.FirstOrderLag.{stepped_of, inverted_of, reset_of}
use Rattle.tick_block.specs.Words.{word_at}
use Rattle.tick_block.specs.Floats.{floats_at}
use Rattle.replay_lists.specs.Words.{Told, word}
use Rattle.replay_lists.specs.Kinds.{by_kind3}

-- ---- the header: k, dt in µs, the number of steps, dt and the least time constant in s, the number of calls

-- whether a lag has the header's numbers
unfoldable pub is_wanted : FirstOrderLag → List ℕ → Bool
is_wanted l s =
    (l.n_steps == word_at s 2 && word l.dt == word_at s 3) && word l.t_min == word_at s 4

-- a lag of other numbers than the header's is none
abbrev pub lag_by : Result FirstOrderLag Refusal → List ℕ → Option FirstOrderLag
lag_by (Ok l) h = if is_wanted l h then Some l else None
lag_by (Err r) h = None

unfoldable pub lag_at : List ℕ → Option FirstOrderLag
lag_at h = lag_by (lag_of (word_at h 0)) h

-- ---- a call

pub record LagAnswer : Type 0 where
  pub output : Vector2f
  pub lag : FirstOrderLag

-- a call: its kind (0 `step`, 1 `invert`, 2 `reset`) and the input. Only `invert` has an output.
unfoldable pub answer : FirstOrderLag → List ℕ → LagAnswer
answer l s =
    let input = vector2_of (floats_at s 1 2) in
    by_kind3 (word_at s 0)
    (record { output = zeros2; lag = stepped_of l input })
    (record { output = inverted_of l input; lag = l })
    (record { output = zeros2; lag = reset_of l })

-- what is compared after a call: the output and the state, and zeros behind them
unfoldable pub stepped : FirstOrderLag → List ℕ → Told FirstOrderLag
stepped l s =
    let a = answer l s in
    record { words = word a.output.x ∷ word a.output.y ∷ word a.lag.state.x ∷ word a.lag.state.y ∷ replicate 8 0; controller = a.lag }
