-- What an outcome says of the gate after it: a taken sighting leaves the gate tracking at 0.0, any other tick lets a tracking gate's t grow,
-- NaN is never taken, and a seeding that is kept holds fewer than 20 sightings.
use mathlib.Core.Path.{◌≡◌, refl, sym, ap, ◌∙◌}
use mathlib.Core.Logic.{◌⊎◌, inl, inr}
use Prim.Native.Nat.{◌≤◌, ◌<◌}
use mathlib.Core.Bool.{Bool, true, false, cond, ◌&&◌, true≢false}
use borrow.Author.Tests.{ltb-true, le-ltb}
use lib.Dec.{lit<, ltb}
use lib.Ieee.{Float, nan, binary32, add, lt, le, eq}
use Rattle.std.specs.Prelude.{Option, None, Some}
use Rattle.params.specs.declared.TheConstants.{VISION_SEED_SAMPLES, VISION_SEED_POS_STD_THRESH_M, VISION_GATE_BASE_RADIUS_M}
use Rattle.linear.specs.declared.Vector3f.{Vector3f}
use Rattle.linear.specs.declared.Vector6f.{Vector6f}
use Rattle.linear.specs.Vector.{zero_float}
use Rattle.vision.specs.declared.gate.VisionGateState.{VisionGateState}
use Rattle.vision.specs.declared.gate.VisionGateState.TheVariants as Gate
use Rattle.tick.specs.declared.action.GateAction.TheVariants.{SeedReset, Accept, AcceptJump, FirstReject, Reject}
use Rattle.vision.specs.Gate.{Judgement}
use Rattle.tick.specs.declared.start.Start.{Start}
use Rattle.tick.specs.Start.{dt_of}
use Rattle.tick.specs.Outcome.{takes}
use Rattle.vision.specs.Seeding.{Seeding, fresh_seeding, gathered, deviation_x, deviation_y, steady}
use Rattle.vision.specs.Gate.{seeding_judged, distance, radius, tracking_judged, judged}
use Rattle.vision.specs.Laws.{Taken, Waiting, Seeded}

-- ---- tracking

-- strictly inside the radius
pub inside_taken : (t d dt : Float) → lt d (radius t) ≡ true → Taken (tracking_judged t d dt)
inside_taken t d dt h = rw h (jump_or_accept (le VISION_GATE_BASE_RADIUS_M d), refl)
  where
    jump_or_accept : (far : Bool) → takes (cond far AcceptJump Accept) ≡ true
    jump_or_accept true = refl
    jump_or_accept false = refl

-- otherwise
pub outside_waits : (t d dt : Float) → lt d (radius t) ≡ false → Waiting t dt (tracking_judged t d dt)
outside_waits t d dt h = rw h (first_or_later (eq t zero_float), refl)
  where
    first_or_later : (first : Bool) → takes (cond first FirstReject Reject) ≡ false
    first_or_later true = refl
    first_or_later false = refl

-- a NaN distance is never inside
pub nan_refused : (t dt : Float) → Waiting t dt (tracking_judged t nan dt)
unfolding lt
nan_refused t dt = outside_waits t nan dt refl

-- there is no third way
pub tracking_either : (t d dt : Float) → Taken (tracking_judged t d dt) ⊎ Waiting t dt (tracking_judged t d dt)
tracking_either t d dt = go (lt d (radius t)) refl
  where
    go : (b : Bool) → lt d (radius t) ≡ b → Taken (tracking_judged t d dt) ⊎ Waiting t dt (tracking_judged t d dt)
    go true e = inl (inside_taken t d dt e)
    go false e = inr (outside_waits t d dt e)

-- ---- seeding

pub seeding_either : (s : Seeding) → Seeded s
seeding_either s = go (ltb s.n VISION_SEED_SAMPLES) (steady s) refl refl
  where
    go : (few still : Bool) → ltb s.n VISION_SEED_SAMPLES ≡ few → steady s ≡ still → Seeded s
    go true still e f = inl (ltb-true s.n VISION_SEED_SAMPLES e, rw e)
    go false true e f = inr (inl (rw (e, f)))
    go false false e f = inr (inr (rw (e, f)))

-- a NaN deviation is not steady
nan_unsteady : (s : Seeding) → (deviation_x s ≡ nan) ⊎ (deviation_y s ≡ nan) → steady s ≡ false
unfolding lt
nan_unsteady s (inl z) = rw z
nan_unsteady s (inr z) = rw z (never (lt (deviation_x s) VISION_SEED_POS_STD_THRESH_M))
  where
    never : (b : Bool) → b && false ≡ false
    never true = refl
    never false = refl

-- so at the 20th it gives S
pub nan_reseeds : (s : Seeding) → VISION_SEED_SAMPLES ≤ s.n → (deviation_x s ≡ nan) ⊎ (deviation_y s ≡ nan) → seeding_judged s ≡ record { action = SeedReset; gate = Gate.Seeding fresh_seeding }
nan_reseeds s h z = rw (le-ltb s.n VISION_SEED_SAMPLES h, nan_unsteady s z)

-- ---- the gate after a tick

clash : {A : Type 0} → true ≡ false → A
clash e = absurd (true≢false e)

-- a taken sighting leaves any gate tracking at 0.0
pub taken_restarts : (g : VisionGateState) (sighting : Option Vector3f) (p : Vector6f) (start : Start) → takes (judged g sighting p start).action ≡ true → (judged g sighting p start).gate ≡ Gate.Tracking zero_float
unfolding judged
taken_restarts g None p start e = clash (sym e)
taken_restarts (Gate.Seeding s) (Some v) p start e =
    elim (seeding_either (gathered s v)) [ inl w ↦ clash (sym e ∙ ap (λ (j : Judgement). takes j.action) w.1) | inr (inl w) ↦ ap (λ (j : Judgement). j.gate) w | inr (inr w) ↦ clash (sym e ∙ ap (λ (j : Judgement). takes j.action) w) ]
taken_restarts (Gate.Tracking t) (Some v) p start e = elim (tracking_either t (distance v p) (dt_of start)) [ inl w ↦ w.1 | inr w ↦ clash (sym e ∙ w.0) ]

-- a tracking gate that takes nothing adds dt to its t, with a sighting or without
pub refused_waits : (t : Float) (sighting : Option Vector3f) (p : Vector6f) (start : Start) → takes (judged (Gate.Tracking t) sighting p start).action ≡ false → (judged (Gate.Tracking t) sighting p start).gate ≡ Gate.Tracking (add binary32 t (dt_of start))
unfolding judged
refused_waits t None p start e = refl
refused_waits t (Some v) p start e = elim (tracking_either t (distance v p) (dt_of start)) [ inl w ↦ clash (sym w.0 ∙ e) | inr w ↦ w.1 ]

-- a gate that seeds
abbrev pub Seeds : VisionGateState → Type 0
Seeds (Gate.Seeding s) = Unit {0}
Seeds (Gate.Tracking t) = ⊥

-- seeds on where nothing is taken: only C starts tracking
pub refused_seeds : (g : VisionGateState) (sighting : Option Vector3f) (p : Vector6f) (start : Start) → Seeds g → takes (judged g sighting p start).action ≡ false → Seeds (judged g sighting p start).gate
unfolding judged
refused_seeds (Gate.Tracking t) sighting p start h e = absurd h
refused_seeds (Gate.Seeding s) None p start h e = tt
refused_seeds (Gate.Seeding s) (Some v) p start h e =
    elim (seeding_either (gathered s v)) [ inl w ↦ rw w.1 tt | inr (inl w) ↦ clash (sym (ap (λ (j : Judgement). takes j.action) w) ∙ e) | inr (inr w) ↦ rw w tt ]

-- ---- a seeding stays small

-- a seeding of fewer than 20 sightings, or a gate that is tracking
abbrev pub Small : VisionGateState → Type 0
Small (Gate.Seeding s) = s.n < VISION_SEED_SAMPLES
Small (Gate.Tracking t) = Unit {0}

pub fresh_small : Small (Gate.Seeding fresh_seeding)
fresh_small = lit< tt

-- every tick keeps it
pub stays_small : (g : VisionGateState) (sighting : Option Vector3f) (p : Vector6f) (start : Start) → Small g → Small (judged g sighting p start).gate
unfolding judged
stays_small (Gate.Seeding s) None p start h = h
stays_small (Gate.Tracking t) None p start h = tt
stays_small (Gate.Seeding s) (Some v) p start h = elim (seeding_either (gathered s v)) [ inl w ↦ rw w.1 w.0 | inr (inl w) ↦ rw w tt | inr (inr w) ↦ rw w fresh_small ]
stays_small (Gate.Tracking t) (Some v) p start h = elim (tracking_either t (distance v p) (dt_of start)) [ inl w ↦ rw w.1 tt | inr w ↦ rw w.1 tt ]
