-- The controller of any number of axes: it answers by the list of answers of specs/Axes.antt, the outputs and the memories side by side.
use Rattle.std.specs.Prelude.{ℕ, List, [], ◌∷◌, map, replicate, Float}
use Rattle.controllers.specs.declared.pid.PidSettings.{PidSettings}
use Rattle.controllers.specs.declared.pid.PidMemory.{PidMemory}
use Rattle.controllers.specs.Axis.{AxisAnswer, no_memory}
use Rattle.controllers.specs.Axes.{Ask, calculate, calculate_with_derivative, Call, ask, reset, asks, asks_with_derivative, answers}

-- what a call answers, and what the axes remember after it
pub record PidAnswer (n : ℕ) : Type 0 where
  pub output : List Float
  pub memory : PidMemory n

-- the axes' answers, as one
unfoldable pub joined : {n : ℕ} → List AxisAnswer → PidAnswer n
joined parts = record { output = map (λ a. a.output) parts; memory = record { axes = map (λ a. a.memory) parts } }

-- each axis answers its own entries: the settings, the memory, the setpoints, the process variables and dt
unfoldable pub calculated : {n : ℕ} → List PidSettings → PidMemory n → List Float → List Float → Float → PidAnswer n
calculated cs m s v dt = joined (answers (asks s v dt) cs m.axes)

-- the same with the derivatives before dt
unfoldable pub calculated_with_derivative : {n : ℕ} → List PidSettings → PidMemory n → List Float → List Float → List Float → Float → PidAnswer n
calculated_with_derivative cs m s v d dt = joined (answers (asks_with_derivative s v d dt) cs m.axes)

-- nothing remembered
unfoldable pub new_memory : {n : ℕ} → PidMemory n
new_memory {n} = record { axes = replicate n no_memory }

-- ---- calls

-- what is answered
abbrev pub answered : {n : ℕ} → Ask (List Float) → List PidSettings → PidMemory n → PidAnswer n
answered (calculate s v dt) cs m = calculated cs m s v dt
answered (calculate_with_derivative s v d dt) cs m = calculated_with_derivative cs m s v d dt

-- what the axes remember after a call
abbrev pub called : {n : ℕ} → Call (List Float) → List PidSettings → PidMemory n → PidMemory n
called (ask a) cs m = (answered a cs m).memory
called reset cs m = new_memory

-- and after a list of calls, the latest first
abbrev pub after_calls : {n : ℕ} → List (Call (List Float)) → List PidSettings → PidMemory n → PidMemory n
after_calls [] cs m = m
after_calls (call ∷ calls) cs m = called call cs (after_calls calls cs m)
