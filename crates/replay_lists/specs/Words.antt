-- The words that an answer is compared by.
use Rattle.std.specs.Prelude.{ℕ, suc, ◌+◌, List, [], ◌∷◌, replicate, Float, set}
use Rattle.std.specs.Float.{binary32}
use Rattle.std.specs.Float.Ieee.{to_bits}
use Rattle.controllers.specs.declared.pid.AxisMemory.{AxisMemory}
use Rattle.controllers.specs.declared.pid.PidMemory.{PidMemory}

-- what a call shows, and the controller after it
pub record Told (A : Type 0) : Type 0 where
  pub words : List ℕ
  pub controller : A

-- a float's word; NaN has one
abbrev pub word : Float → ℕ
word = to_bits binary32

-- the words with those of axis i of n: its output, its previous error and its integrated error
unfoldable pub axis_put : List ℕ → ℕ → ℕ → Float → AxisMemory → List ℕ
axis_put ws n i o m =
    set (set (set ws i (word o)) (n + i) (word m.prev_error)) (n + n + i) (word m.integrated_error)

-- the axes of n from axis i on: the outputs, the previous errors and the integrated errors, n words each
abbrev pub axes_put : ℕ → ℕ → List Float → List AxisMemory → List ℕ → List ℕ
axes_put n i [] ms ws = ws
axes_put n i (o ∷ os) [] ws = ws
axes_put n i (o ∷ os) (m ∷ ms) ws = axes_put n (suc i) os ms (axis_put ws n i o m)

-- all axes, and zeros behind them
unfoldable pub words_of : {n : ℕ} → List Float → PidMemory n → List ℕ
words_of {n} os m = axes_put n 0 os m.axes (replicate 12 0)
