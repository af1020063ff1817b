-- What holds of the gate and of the vision clock over ticks of k/4096 s: each statement is a clause of a function of src/laws.rt.
use Rattle.std.specs.Prelude.{◌≡◌, ◌⊎◌, ℕ, suc, ◌*◌, ◌^◌, ◌<◌, ◌≤◌, true, false, if◌then◌else◌, ◌==◌, nat_le, T, pos, Float, Option, Some}
use Rattle.std.specs.Float.{nan, inf, fin, binary32}
use Rattle.std.specs.Float.Ieee.{up, down, add, lt, le, of_int}
use Rattle.std.specs.Float.Ieee.Exact.{HasValue}
use Rattle.linear.specs.declared.Vector3f.{Vector3f}
use Rattle.linear.specs.declared.Vector6f.{Vector6f}
use Rattle.linear.specs.Vector.{zero_float}
use Rattle.params.specs.declared.TheConstants.{VISION_SEED_SAMPLES, VISION_CLOCK_START_S}
use Rattle.tick.specs.TickLength.{seconds_of}
use Rattle.tick.specs.declared.start.Start.{Start}
use Rattle.tick.specs.Start.{dt_of}
use Rattle.tick.specs.declared.action.GateAction.TheVariants.{Accumulate, SeedComplete, SeedReset, FirstReject, Reject}
use Rattle.tick.specs.Outcome.{takes}
use Rattle.vision.specs.declared.gate.VisionGateState.{VisionGateState}
use Rattle.vision.specs.declared.gate.VisionGateState.TheVariants as Gate
use Rattle.vision.specs.declared.Vision.{Vision}
use Rattle.vision.specs.Seeding.{Seeding, fresh_seeding, deviation_x, deviation_y}
use Rattle.vision.specs.Gate.{Judgement, distance, radius, seeding_judged, tracking_judged, judged}
use Rattle.vision.specs.Vision.{active, new_vision, vision_after}
use Rattle.vision.specs.Since.{since_taken, clock_since}

-- ---- the sum of tick lengths, each step rounded to binary32; `HasValue x s a c` says that x is finite, has the sign s and is a / c in size

-- x is at least n / c: positive infinity, or a number of that size
abbrev pub AtLeast : Float → ℕ → ℕ → Type 0
AtLeast nan n c = ⊥
AtLeast (inf s) n c = s ≡ false
AtLeast (fin s m e) n c = (s ≡ false) × (n * down e ≤ m * up e * c)

-- exact up to 4096 s
abbrev pub SumIsExact : Type 0
SumIsExact = (k m : ℕ) → k ≤ 64 → m * k ≤ 2 ^ 24 → HasValue (since_taken (seconds_of k) m) false (m * k) 4096

-- and at least that from there on
abbrev pub SumIsBeyond : Type 0
SumIsBeyond = (k m : ℕ) → k ≤ 64 → 2 ^ 24 ≤ m * k → AtLeast (since_taken (seconds_of k) m) (2 ^ 24) 4096

-- ---- gate and clock, tick by tick

-- a sighting was taken m ticks of k/4096 s ago, none since, and no reset came
pub record Held (k m : ℕ) (v : Vision) : Type 0 where
  pub tracking : v.gate ≡ Gate.Tracking (since_taken (seconds_of k) m)
  pub clock : v.time_since_vision_update_s ≡ clock_since zero_float (seconds_of k) m

-- no sighting was taken since the start or the last reset
abbrev pub Unheld : Vision → Type 0
Unheld v = v.time_since_vision_update_s ≡ VISION_CLOCK_START_S

-- a tick that takes a sighting begins to hold it
abbrev pub TakenIsHeld : Type 0
TakenIsHeld =
    (v : Vision) (sighting : Option Vector3f) (predicted : Vector6f) (start : Start)
    → takes (vision_after v sighting predicted start).action ≡ true
    → Held start.tick_length 0 (vision_after v sighting predicted start).vision

-- one that takes none holds it a tick longer
abbrev pub HeldWaits : Type 0
HeldWaits =
    (v : Vision) (sighting : Option Vector3f) (predicted : Vector6f) (start : Start) (m : ℕ)
    → Held start.tick_length m v
    → takes (vision_after v sighting predicted start).action ≡ false
    → Held start.tick_length (suc m) (vision_after v sighting predicted start).vision

-- new or reset, none is held, nor while none is taken
abbrev pub NewIsUnheld : Type 0
NewIsUnheld = Unheld new_vision

abbrev pub UnheldWaits : Type 0
UnheldWaits =
    (v : Vision) (sighting : Option Vector3f) (predicted : Vector6f) (start : Start)
    → Unheld v
    → takes (vision_after v sighting predicted start).action ≡ false
    → Unheld (vision_after v sighting predicted start).vision

-- vision is active exactly while m * k ≤ 2048 after a taken sighting
abbrev pub HeldIsActive : Type 0
HeldIsActive = (k m : ℕ) (v : Vision) → k ≤ 64 → Held k m v → active v.time_since_vision_update_s ≡ nat_le (m * k) 2048

-- and never before the first one
abbrev pub UnheldIsInactive : Type 0
UnheldIsInactive = (v : Vision) → Unheld v → active v.time_since_vision_update_s ≡ false

-- ---- the radius

-- for D from 1 to 64, m * k ≥ 2048 * D makes the radius exceed every distance of at most D
abbrev pub RadiusWidens : Type 0
RadiusWidens =
    (k m D : ℕ)
    → k ≤ 64
    → 1 ≤ D
    → D ≤ 64
    → 2048 * D ≤ m * k
    → (d : Float) → T (le d (of_int binary32 (pos D))) → T (lt d (radius (since_taken (seconds_of k) m)))

-- so a tracking gate takes the sighting
abbrev pub WideningTakes : Type 0
WideningTakes =
    (start : Start) (m D : ℕ)
    → start.tick_length ≤ 64
    → 1 ≤ D
    → D ≤ 64
    → 2048 * D ≤ m * start.tick_length
    → (v : Vector3f) (p : Vector6f)
    → T (le (distance v p) (of_int binary32 (pos D)))
    → takes (judged (Gate.Tracking (since_taken (dt_of start) m)) (Some v) p start).action ≡ true

-- and so does a tick, m ticks after the last taken sighting
abbrev pub HeldTakes : Type 0
HeldTakes =
    (start : Start) (m D : ℕ) (v : Vision)
    → start.tick_length ≤ 64
    → 1 ≤ D
    → D ≤ 64
    → 2048 * D ≤ m * start.tick_length
    → Held start.tick_length m v
    → (sighting : Vector3f) (predicted : Vector6f)
    → T (le (distance sighting predicted) (of_int binary32 (pos D)))
    → takes (vision_after v (Some sighting) predicted start).action ≡ true

-- ---- outcomes

-- a judgement that takes the sighting and tracks from 0.0, and one that takes nothing and tracks on from t
abbrev pub Taken : Judgement → Type 0
Taken j = (takes j.action ≡ true) × (j.gate ≡ Gate.Tracking zero_float)

abbrev pub Waiting : Float → Float → Judgement → Type 0
Waiting t dt j = (takes j.action ≡ false) × (j.gate ≡ Gate.Tracking (add binary32 t dt))

-- a tracking gate either takes a sighting or waits
abbrev pub TrackingTakesOrWaits : Type 0
TrackingTakesOrWaits = (t d dt : Float) → Taken (tracking_judged t d dt) ⊎ Waiting t dt (tracking_judged t d dt)

-- a NaN distance is never taken
abbrev pub NanDistanceWaits : Type 0
NanDistanceWaits = (t dt : Float) → Waiting t dt (tracking_judged t nan dt)

-- a refusal is the first exactly where no tick came since the last taken sighting, quiet or not
abbrev pub FirstRefusal : Type 0
FirstRefusal =
    (k m : ℕ)
    → 1 ≤ k
    → k ≤ 64
    → (d : Float)
    → lt d (radius (since_taken (seconds_of k) m)) ≡ false
    → (tracking_judged (since_taken (seconds_of k) m) d (seconds_of k)).action ≡ if m == 0 then FirstReject else Reject

-- a seeding gathers below the 20th sighting, and from it on completes or seeds anew
abbrev pub Seeded : Seeding → Type 0
Seeded s =
    ((s.n < VISION_SEED_SAMPLES) × (seeding_judged s ≡ record { action = Accumulate; gate = Gate.Seeding s }))
    ⊎ ((seeding_judged s ≡ record { action = SeedComplete; gate = Gate.Tracking zero_float })
    ⊎ (seeding_judged s ≡ record { action = SeedReset; gate = Gate.Seeding fresh_seeding }))

abbrev pub SeedingIsSeeded : Type 0
SeedingIsSeeded = (s : Seeding) → Seeded s

-- a NaN deviation seeds anew
abbrev pub NanDeviationSeedsAnew : Type 0
NanDeviationSeedsAnew =
    (s : Seeding)
    → VISION_SEED_SAMPLES ≤ s.n
    → (deviation_x s ≡ nan) ⊎ (deviation_y s ≡ nan)
    → seeding_judged s ≡ record { action = SeedReset; gate = Gate.Seeding fresh_seeding }

-- a taken sighting leaves any gate tracking from 0.0
abbrev pub TakenRestarts : Type 0
TakenRestarts =
    (g : VisionGateState) (sighting : Option Vector3f) (p : Vector6f) (start : Start)
    → takes (judged g sighting p start).action ≡ true
    → (judged g sighting p start).gate ≡ Gate.Tracking zero_float
