-- The gate's radius over ticks that take no sighting: it passes every distance up to D metres once m * k ≥ 2048 * D, and only the first of
-- them can be a first refusal.
use mathlib.Core.Path.{◌≡◌, refl, sym, ◌∙◌}
use Prim.Native.Nat.{ℕ, zero, suc, ◌+◌, ◌*◌, ◌≤◌}
use native.Mathlib.Nat.{le_refl, suc-mul}
use native.Mathlib.Omega.{arith}
use mathlib.Core.Bool.{true, false, cond}
use lib.IntN.{pos}
use lib.Dec.{T, lit<, lit≤, eqb, eqb-suc-zero}
use lib.Ieee.{Float, binary32, round, mul, of_int, of_bits, lt, le, eq}
use lib.Ieee.Bits.{is_true}
use lib.Ieee.Back.{round_whole}
use Rattle.params.specs.declared.TheConstants.{VISION_GATE_BASE_RADIUS_M, VISION_GATE_EXPAND_RATE_M_PER_S}
use Rattle.linear.specs.Vector.{zero_float}
use Rattle.tick.specs.TickLength.{seconds_of}
use Rattle.tick.specs.declared.start.Start.{Start}
use Rattle.tick.specs.Start.{dt_of}
use Rattle.linear.specs.declared.Vector3f.{Vector3f}
use Rattle.linear.specs.declared.Vector6f.{Vector6f}
use Rattle.vision.specs.declared.gate.VisionGateState.TheVariants.{Tracking}
use Rattle.tick.specs.declared.action.GateAction.TheVariants.{FirstReject, Reject}
use Rattle.tick.specs.Outcome.{takes}
use Rattle.std.specs.Prelude.{Some}
use Rattle.vision.specs.Gate.{distance, radius, tracking_judged, judged}
use Rattle.vision.specs.Since.{since_taken}
use Rattle.vision.specs.Laws.{AtLeast}
use Rattle.vision.proofs.Least.{add_least, double_least, below_least, least_not_zero}
use Rattle.vision.proofs.Ticks.{exact_at, sum_reaches}
use Rattle.vision.proofs.Outcomes.{inside_taken}

-- the base is at least half a metre
base_least : AtLeast VISION_GATE_BASE_RADIUS_M 2048 4096
unfolding of_bits
base_least = (refl, lit≤ tt)

-- from t = D / 2 s on the radius is at least D + 1/2
radius_least : (t : Float) (D : ℕ) → 1 ≤ D → D ≤ 64 → AtLeast t (2048 * D) 4096 → AtLeast (radius t) (2048 + 2 * (2048 * D)) 4096
radius_least t D l h p =
    add_least VISION_GATE_BASE_RADIUS_M (mul binary32 VISION_GATE_EXPAND_RATE_M_PER_S t) 2048 (2 * (2048 * D)) (2048 + 2 * (2048 * D)) 4096 (omega arith) (lit< tt)
    (exact_at (2048 + 2 * (2048 * D)) (omega arith)) (le_refl (2048 + 2 * (2048 * D))) base_least
    (double_least t (2048 * D) 4096 (omega arith) (lit< tt) (exact_at (2 * (2048 * D)) (omega arith)) p)

-- m ticks of k/4096 s after the last taken sighting, with m * k ≥ 2048 * D, every distance of at most D is strictly inside
pub widens : (k m D : ℕ) → k ≤ 64 → 1 ≤ D → D ≤ 64 → 2048 * D ≤ m * k → (d : Float) → T (le d (of_int binary32 (pos D))) → T (lt d (radius (since_taken (seconds_of k) m)))
unfolding of_int
widens k m D K l h r d small =
    below_least d (round binary32 false D 1) (radius (since_taken (seconds_of k) m)) D 1 (2048 + 2 * (2048 * D)) 4096 (lit< tt) (omega arith)
    (round_whole binary32 false D (omega arith)) small
    (radius_least (since_taken (seconds_of k) m) D l h (sum_reaches k m (2048 * D) K (omega arith) (omega arith) r))

-- so a tracking gate takes the sighting
pub widening_takes : (start : Start) (m D : ℕ) → start.tick_length ≤ 64 → 1 ≤ D → D ≤ 64 → 2048 * D ≤ m * start.tick_length → (v : Vector3f) (p : Vector6f) → T (le (distance v p) (of_int binary32 (pos D)))
    → takes (judged (Tracking (since_taken (dt_of start) m)) (Some v) p start).action ≡ true
unfolding judged
widening_takes start m D K l h r v p small =
    (inside_taken (since_taken (dt_of start) m) (distance v p) (dt_of start) (is_true (lt (distance v p) (radius (since_taken (dt_of start) m))) (widens start.tick_length m D K l h r (distance v p) small))).0

-- a refusal is the first exactly where no tick came since the last taken sighting, quiet or not
pub refusal : (k m : ℕ) → 1 ≤ k → k ≤ 64 → (d : Float) → lt d (radius (since_taken (seconds_of k) m)) ≡ false
    → (tracking_judged (since_taken (seconds_of k) m) d (seconds_of k)).action ≡ cond (eqb m 0) FirstReject Reject
refusal k m l K d h = rw (h, zero_only m)
  where
    zero_only : (m : ℕ) → eq (since_taken (seconds_of k) m) zero_float ≡ eqb m 0
    zero_only zero = unfold since_taken eq of_bits in refl
    zero_only (suc m) = least_not_zero (since_taken (seconds_of k) (suc m)) k 4096 l (sum_reaches k (suc m) k K l (omega arith) (omega (arith, suc-mul m k))) ∙ sym (eqb-suc-zero m)
