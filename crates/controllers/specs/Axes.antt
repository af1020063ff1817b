-- pid.rs for any number of axes, as lists: the settings and the memory of each axis, and of every vector an entry for each axis.
use Rattle.std.specs.Prelude.{List, [], ◌∷◌, Float}
use Rattle.controllers.specs.declared.pid.PidSettings.{PidSettings}
use Rattle.controllers.specs.declared.pid.AxisMemory.{AxisMemory}
use Rattle.controllers.specs.Axis.{AxisAnswer, one_calculated, one_with_derivative, no_memory}

-- what is asked, of one axis by numbers and of many by vectors: setpoint, process variable, derivative, dt
pub data Ask (V : Type 0) : Type 0 where
  calculate : V → V → Float → Ask V
  calculate_with_derivative : V → V → V → Float → Ask V

-- a call
pub data Call (V : Type 0) : Type 0 where
  ask : Ask V → Call V
  reset : Call V

-- ---- one axis

abbrev pub answer : Ask Float → PidSettings → AxisMemory → AxisAnswer
answer (calculate s v dt) c m = one_calculated c m s v dt
answer (calculate_with_derivative s v d dt) c m = one_with_derivative c m s v d dt

-- what it remembers after a call
abbrev pub after : Call Float → PidSettings → AxisMemory → AxisMemory
after (ask a) c m = (answer a c m).memory
after reset c m = no_memory

-- and after a list of calls, the latest first
abbrev pub alone : List (Call Float) → PidSettings → AxisMemory → AxisMemory
alone [] c m = m
alone (call ∷ calls) c m = after call c (alone calls c m)

-- ---- many axes

-- what `calculate` and `calculate_with_derivative` ask of each axis, by the vectors' entries
abbrev pub asks : List Float → List Float → Float → List (Ask Float)
asks [] vs dt = []
asks (s ∷ ss) [] dt = []
asks (s ∷ ss) (v ∷ vs) dt = calculate s v dt ∷ asks ss vs dt

abbrev pub asks_with_derivative : List Float → List Float → List Float → Float → List (Ask Float)
asks_with_derivative [] vs ds dt = []
asks_with_derivative (s ∷ ss) [] ds dt = []
asks_with_derivative (s ∷ ss) (v ∷ vs) [] dt = []
asks_with_derivative (s ∷ ss) (v ∷ vs) (d ∷ ds) dt = calculate_with_derivative s v d dt ∷ asks_with_derivative ss vs ds dt

-- every axis answers its own part, by its own settings and memory
unfoldable pub answers : List (Ask Float) → List PidSettings → List AxisMemory → List AxisAnswer
answers [] cs ms = []
answers (a ∷ parts) [] ms = []
answers (a ∷ parts) (c ∷ cs) [] = []
answers (a ∷ parts) (c ∷ cs) (m ∷ ms) = answer a c m ∷ answers parts cs ms
