-- The vision clock over ticks that take no sighting: active exactly while m * k ≤ 2048 after taking, and never after a reset.
use mathlib.Core.Path.{◌≡◌, refl, sym, ap, ◌∙◌}
use Prim.Native.Nat.{ℕ, zero, suc, ◌*◌, ◌≤◌, ◌<◌}
use native.Mathlib.Nat.{suc-mul}
use native.Mathlib.Omega.{arith}
use mathlib.Core.Bool.{Bool, true, false}
use borrow.Author.Tests.{leb-true, leb-false, lt-leb}
use lib.Dec.{T, lit<, leb}
use lib.Ieee.{Float, binary32, add, le, of_bits}
use lib.Ieee.Bits.{is_true}
use lib.Ieee.Exact.{HasValue}
use lib.Ieee.Order.{le_of_values}
use lib.Ieee.Positive.{positive, positive_of_value, values_of_le}
use Rattle.params.specs.declared.TheConstants.{VISION_ACTIVE_TIMEOUT_S, VISION_CLOCK_START_S}
use Rattle.linear.specs.Vector.{zero_float}
use Rattle.tick.specs.TickLength.{seconds_of}
use Rattle.vision.specs.Vision.{active, clock_after}
use Rattle.vision.specs.Since.{clock_since}
use Rattle.vision.proofs.Ticks.{tick_exact, zero_value}

-- 0.5
timeout_value : HasValue VISION_ACTIVE_TIMEOUT_S false 1 2
unfolding of_bits
timeout_value = (refl, refl)

timeout_positive : T (positive VISION_ACTIVE_TIMEOUT_S)
unfolding of_bits
timeout_positive = tt

-- a clock of a / 4096 s is active exactly while a ≤ 2048
pub active_at_lem : (clock : Float) (a : ℕ) → HasValue clock false a 4096 → active clock ≡ leb a 2048
active_at_lem clock a v = go (leb a 2048) refl
  where
    refuted : (b : Bool) → (T b → ⊥) → b ≡ false
    refuted true h = absurd (h tt)
    refuted false h = refl

    go : (b : Bool) → leb a 2048 ≡ b → le clock VISION_ACTIVE_TIMEOUT_S ≡ b
    go true e = is_true (le clock VISION_ACTIVE_TIMEOUT_S) (le_of_values clock VISION_ACTIVE_TIMEOUT_S a 4096 1 2 (lit< tt) (lit< tt) v timeout_value (omega (arith, leb-true a 2048 e)))
    go false e =
        let beyond : 2048 < a = leb-false a 2048 e in
        refuted (le clock VISION_ACTIVE_TIMEOUT_S) λ t.
        let h = values_of_le clock VISION_ACTIVE_TIMEOUT_S a 4096 1 2 (positive_of_value clock a 4096 v (omega arith)) timeout_positive v timeout_value t in
        omega arith

-- while active, a tick that takes nothing adds dt; then the clock stands still
pub active_runs : (clock dt : Float) → active clock ≡ true → clock_after clock false dt ≡ add binary32 clock dt
active_runs clock dt h = rw h

pub inactive_stands : (clock dt : Float) → active clock ≡ false → clock_after clock false dt ≡ clock
inactive_stands clock dt h = rw h

-- ---- after a taken sighting

-- the clock m ticks of k/4096 s later, with none taken since
pub record Running (k m : ℕ) : Type 0 where
  pub mark : active (clock_since zero_float (seconds_of k) m) ≡ leb (m * k) 2048
  pub value : m * k ≤ 2048 → HasValue (clock_since zero_float (seconds_of k) m) false (m * k) 4096

tick : (k m : ℕ) → k ≤ 64 → Running k m → Running k (suc m)
unfolding clock_since
tick k m K r = go (leb (m * k) 2048) refl
  where
    clock : Float
    clock = clock_since zero_float (seconds_of k) m

    go : (b : Bool) → leb (m * k) 2048 ≡ b → Running k (suc m)
    go true e =
        let within : m * k ≤ 2048 = leb-true (m * k) 2048 e in
        let exact : HasValue (clock_after clock false (seconds_of k)) false (suc m * k) 4096 =
        rw (active_runs clock (seconds_of k) (r.mark ∙ e), suc-mul) (tick_exact k (m * k) clock K (omega arith) (r.value within)) in
        record { mark = active_at_lem (clock_after clock false (seconds_of k)) (suc m * k) exact; value = λ _. exact }
    go false e =
        let beyond : 2048 < suc m * k = omega (arith, leb-false (m * k) 2048 e, suc-mul m k) in
        record {
          mark = ap active (inactive_stands clock (seconds_of k) (r.mark ∙ e)) ∙ r.mark ∙ e ∙ sym (lt-leb (suc m * k) 2048 beyond);
          value = λ h. absurd (omega arith);
        }

pub since_taken_lem : (k m : ℕ) → k ≤ 64 → Running k m
unfolding clock_since
since_taken_lem k zero K = record { mark = active_at_lem zero_float (0 * k) (zero_value k); value = λ _. zero_value k }
since_taken_lem k (suc m) K = tick k m K (since_taken_lem k m K)

-- ---- new or reset

start_inactive : active VISION_CLOCK_START_S ≡ false
unfolding le of_bits
start_inactive = refl

-- the clock stays at 1.5
pub reset_stands : (dt : Float) (m : ℕ) → clock_since VISION_CLOCK_START_S dt m ≡ VISION_CLOCK_START_S
unfolding clock_since
reset_stands dt zero = refl
reset_stands dt (suc m) = ap (λ (c : Float). clock_after c false dt) (reset_stands dt m) ∙ inactive_stands VISION_CLOCK_START_S dt start_inactive

-- and is never active
pub since_reset : (dt : Float) (m : ℕ) → active (clock_since VISION_CLOCK_START_S dt m) ≡ false
since_reset dt m = ap active (reset_stands dt m) ∙ start_inactive
