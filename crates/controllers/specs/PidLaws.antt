-- What holds of pid.rs's controller of n axes, after any list of calls: each statement is a clause of a function of src/pid_laws.rt.
-- The axis i has the settings c at i of cs and the memory a at i of m.
use Rattle.std.specs.Prelude.{◌≡◌, ℕ, ◌<◌, true, false, T, List, ◌∷◌, ◌++◌, length, map, slice_get, All, IfSome, Float, Option, None, Some}
use Rattle.std.specs.Float.{nan, binary32}
use Rattle.std.specs.Float.Ieee.{sub, mul, div, lt, le}
use Rattle.ieee754.specs.Magnitude.{magnitude}
use Rattle.linear.specs.Vector.{zero_float, entry}
use Rattle.controllers.specs.declared.pid.PidSettings.{PidSettings}
use Rattle.controllers.specs.declared.pid.AxisMemory.{AxisMemory}
use Rattle.controllers.specs.declared.pid.PidMemory.{PidMemory}
use Rattle.controllers.specs.Axis.{limited}
use Rattle.controllers.specs.Axes.{Ask, calculate, calculate_with_derivative, answer, Call, ask, reset, alone}
use Rattle.controllers.specs.PidAxes.{new_memory, answered, called, after_calls}

-- ---- the axes do not touch each other

-- every vector has n entries
abbrev pub HasEntries : ℕ → Call (List Float) → Type 0
HasEntries n (ask (calculate s v dt)) = (length s ≡ n) × (length v ≡ n)
HasEntries n (ask (calculate_with_derivative s v d dt)) = (length s ≡ n) × (length v ≡ n) × (length d ≡ n)
HasEntries n reset = Unit {0}

-- the axis i's own part of a call
abbrev pub own_ask : ℕ → Ask (List Float) → Ask Float
own_ask i (calculate s v dt) = calculate (entry s i) (entry v i) dt
own_ask i (calculate_with_derivative s v d dt) = calculate_with_derivative (entry s i) (entry v i) (entry d i) dt

abbrev pub own_call : ℕ → Call (List Float) → Call Float
own_call i (ask a) = ask (own_ask i a)
own_call i reset = reset

-- what an axis remembers after a list of calls is what its own parts of them make of it
abbrev pub AxesRememberApart : Type 0
AxesRememberApart =
    (n : ℕ) (calls : List (Call (List Float))) (cs : List PidSettings) (m : PidMemory n) (i : ℕ) (c : PidSettings) (a : AxisMemory)
    → All (HasEntries n) calls
    → i < n
    → slice_get cs i ≡ Some c
    → slice_get m.axes i ≡ Some a
    → slice_get (after_calls calls cs m).axes i ≡ Some (alone (map (own_call i) calls) c a)

-- and what it then answers is its answer to its own part
abbrev pub AxesAnswerApart : Type 0
AxesAnswerApart =
    (n : ℕ) (asked : Ask (List Float)) (calls : List (Call (List Float))) (cs : List PidSettings) (m : PidMemory n)
    (i : ℕ) (c : PidSettings) (a : AxisMemory)
    → All (HasEntries n) (ask asked ∷ calls)
    → i < n
    → slice_get cs i ≡ Some c
    → slice_get m.axes i ≡ Some a
    → slice_get (answered asked cs (after_calls calls cs m)).output i ≡ Some (answer (own_ask i asked) c (alone (map (own_call i) calls) c a)).output

-- ---- the integrated error

-- the bounds enclose 0.0
pub record EnclosesZero (c : PidSettings) : Type 0 where
  pub below : T (le c.gain.ki_err_min zero_float)
  pub above : T (le zero_float c.gain.ki_err_max)

-- the integrated error is within its bounds
pub record Bounded (c : PidSettings) (a : AxisMemory) : Type 0 where
  pub least : T (le c.gain.ki_err_min a.integrated_error)
  pub most : T (le a.integrated_error c.gain.ki_err_max)

-- a call leaves it within bounds that enclose 0.0, wherever it was
abbrev pub CallBoundsIntegral : Type 0
CallBoundsIntegral =
    (n : ℕ) (call : Call (List Float)) (cs : List PidSettings) (m : PidMemory n) (i : ℕ) (c : PidSettings)
    → slice_get cs i ≡ Some c
    → EnclosesZero c
    → IfSome (slice_get (called call cs m).axes i) (Bounded c)

-- so no list of calls takes it out of them
abbrev pub IntegralIsBounded : Type 0
IntegralIsBounded =
    (n : ℕ) (calls : List (Call (List Float))) (cs : List PidSettings) (m : PidMemory n) (i : ℕ) (c : PidSettings)
    → slice_get cs i ≡ Some c
    → EnclosesZero c
    → IfSome (slice_get m.axes i) (Bounded c)
    → IfSome (slice_get (after_calls calls cs m).axes i) (Bounded c)

-- and a new controller's never leaves them
abbrev pub NewIntegralIsBounded : Type 0
NewIntegralIsBounded =
    (n : ℕ) (calls : List (Call (List Float))) (cs : List PidSettings) (i : ℕ) (c : PidSettings)
    → slice_get cs i ≡ Some c
    → EnclosesZero c
    → IfSome (slice_get (after_calls calls cs (new_memory {n = n})).axes i) (Bounded c)

-- ---- the output's limits, whatever is remembered

-- the limits are in order, and an output is within them, where there are any
abbrev pub Ordered : Option (Float × Float) → Type 0
Ordered None = Unit {0}
Ordered (Some w) = T (le w.0 w.1)

abbrev pub Inside : Option (Float × Float) → Float → Type 0
Inside None out = Unit {0}
Inside (Some w) out = T (le w.0 out) × T (le out w.1)

-- where an axis's limits are in order, each of its outputs is within them
abbrev pub OutputsAreLimited : Type 0
OutputsAreLimited =
    (n : ℕ) (asked : Ask (List Float)) (cs : List PidSettings) (m : PidMemory n) (i : ℕ) (c : PidSettings)
    → slice_get cs i ≡ Some c
    → Ordered c.output_limits
    → IfSome (slice_get (answered asked cs m).output i) (Inside c.output_limits)

-- the same settings, with no limits
abbrev pub without_limits : PidSettings → PidSettings
without_limits c = record c { output_limits = None }

-- and where it would be NaN without limits, it is the lower one
abbrev pub NanIsLowerLimit : Type 0
NanIsLowerLimit =
    (n : ℕ) (asked : Ask (List Float)) (cs : List PidSettings) (m : PidMemory n) (i : ℕ) (c : PidSettings) (lo hi : Float)
    → slice_get cs i ≡ Some c
    → c.output_limits ≡ Some (lo, hi)
    → slice_get (answered asked (map without_limits cs) m).output i ≡ Some nan
    → slice_get (answered asked cs m).output i ≡ Some lo

-- ---- reset

-- after a reset the calls find a new controller, whatever came before
abbrev pub ResetIsNew : Type 0
ResetIsNew =
    (n : ℕ) (later earlier : List (Call (List Float))) (cs : List PidSettings) (m : PidMemory n)
    → after_calls (later ++ reset ∷ earlier) cs m ≡ after_calls later cs new_memory

-- ---- anti-jitter

-- setpoint less process variable
abbrev pub error_of : Ask Float → Float
error_of (calculate s v dt) = sub binary32 s v
error_of (calculate_with_derivative s v d dt) = sub binary32 s v

-- the same gains, with neither threshold nor limits
abbrev pub gains_only : PidSettings → PidSettings
gains_only c = record c { anti_jitter_thresh = None; output_limits = None }

-- below a threshold above zero the output is scaled by |error| / threshold, and then held to the limits
abbrev pub OutputIsScaledBelow : Type 0
OutputIsScaledBelow =
    (n : ℕ) (asked : Ask (List Float)) (cs : List PidSettings) (m : PidMemory n) (i : ℕ) (c : PidSettings) (t out : Float)
    → HasEntries n (ask asked)
    → i < n
    → slice_get cs i ≡ Some c
    → c.anti_jitter_thresh ≡ Some t
    → lt zero_float t ≡ true
    → lt (magnitude (error_of (own_ask i asked))) t ≡ true
    → slice_get (answered asked (map gains_only cs) m).output i ≡ Some out
    → slice_get (answered asked cs m).output i ≡ Some (limited c.output_limits (div binary32 (mul binary32 out (magnitude (error_of (own_ask i asked)))) t))

-- from the threshold on it is only held to the limits
abbrev pub OutputStaysFrom : Type 0
OutputStaysFrom =
    (n : ℕ) (asked : Ask (List Float)) (cs : List PidSettings) (m : PidMemory n) (i : ℕ) (c : PidSettings) (t out : Float)
    → HasEntries n (ask asked)
    → i < n
    → slice_get cs i ≡ Some c
    → c.anti_jitter_thresh ≡ Some t
    → lt (magnitude (error_of (own_ask i asked))) t ≡ false
    → slice_get (answered asked (map gains_only cs) m).output i ≡ Some out
    → slice_get (answered asked cs m).output i ≡ Some (limited c.output_limits out)
