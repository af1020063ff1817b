-- Along any list of calls of the plain drive: ticks, counts, how many sightings a seeding holds, and what gate and clock are since the last
-- taken sighting.
use mathlib.Core.Path.{◌≡◌, refl, sym, ap, ◌∙◌}
use mathlib.Core.Logic.{inl, inr}
use Prim.Native.Nat.{ℕ, zero, suc, ◌+◌, ◌≤◌, ◌<◌}
use native.Mathlib.Numerals.{add-one}
use native.Mathlib.Omega.{arith}
use mathlib.Core.Bool.{Bool, true, false, cond, not, ◌&&◌, ◌||◌}
use mathlib.Core.List.{List, [], ◌∷◌, head-eq_of_cons-eq, tail-eq_of_cons-eq}
use lib.Dec.{lit<, lit≤}
use lib.ListN.{length}
use Rattle.std.specs.Prelude.{sum}
use Rattle.std.proofs.lemmas.List.Sums.{sum_by-cons}
use Rattle.tick.specs.declared.start.Start.{Start}
use Rattle.tick.specs.declared.action.GateAction.{GateAction}
use Rattle.tick.specs.declared.action.GateAction.TheVariants.{NoVision, Accumulate, SeedComplete, SeedReset, Accept, AcceptJump, FirstReject, Reject}
use Rattle.vision.specs.declared.Vision.{Vision}
use Rattle.tick.specs.Outcome.{takes, number_of}
use Rattle.vision.specs.Gate.{sighting_of, judged}
use Rattle.vision.specs.Vision.{vision_after}
use Rattle.vision.proofs.Outcomes.{Small, fresh_small, stays_small, Seeds, refused_seeds}
use Rattle.vision.proofs.Held.{Held, Unheld, taken_held, held_waits, unheld_waits}
use Rattle.tick.specs.declared.inputs.SightInput.{SightInput}
use Rattle.plain_drive.specs.Calls.{Call, is_tick, took}
use Rattle.plain_drive.specs.PlainDrive.{DriveState, Step, new_drive, grown, seen, step, driven, driven_replies}
use Rattle.plain_drive.specs.EveryList.{Entry, calls_of, replies_of, ticks_in, since, holding}
use Rattle.plain_drive.proofs.PlainSteps.{resets, VisionFrom, NoTick, Ticked, Moves, moves}

-- ---- counts

number_below : (a : GateAction) → number_of a < 8
number_below NoVision = lit< tt
number_below Accumulate = lit< tt
number_below SeedComplete = lit< tt
number_below SeedReset = lit< tt
number_below Accept = lit< tt
number_below AcceptJump = lit< tt
number_below FirstReject = lit< tt
number_below Reject = lit< tt

grown-length : (place : ℕ) (ns : List ℕ) → length (grown place ns) ≡ length ns
unfolding grown
grown-length place [] = refl
grown-length zero (n ∷ ns) = refl
grown-length (suc place) (n ∷ ns) = ap suc (grown-length place ns)

grown-sum : (place : ℕ) (ns : List ℕ) → place < length ns → sum (grown place ns) ≡ sum ns + 1
unfolding grown
grown-sum place [] h = absurd (omega arith)
grown-sum zero (n ∷ ns) h = let f = sum_by-cons (λ (x : ℕ). x) n ns in let g = sum_by-cons (λ (x : ℕ). x) (n + 1) ns in omega (arith, f, g)
grown-sum (suc place) (n ∷ ns) h =
    let e = grown-sum place ns (omega arith) in
    let f = sum_by-cons (λ (x : ℕ). x) n ns in
    let g = sum_by-cons (λ (x : ℕ). x) n (grown place ns) in
    omega (arith, e, f, g)

-- ---- gate and clock

abbrev pub vision_of : DriveState → Vision
vision_of s = record { gate = s.gate; time_since_vision_update_s = s.clock }

-- a sighting was taken m ticks ago and no reset came since; or the gate seeds, with the clock at its start
abbrev pub Seen : ℕ → Bool → ℕ → Vision → Type 0
Seen k true m v = Held k m v
Seen k false m v = Unheld v × Seeds v.gate

-- after n ticks, m of them since the last taken sighting
pub record Watched (k n m : ℕ) (holds : Bool) (s : DriveState) : Type 0 where
  pub ticks : s.ticks ≡ n
  pub counted : s.ticks ≡ sum s.counts
  pub eight : length s.counts ≡ 8
  pub limit : s.ticks ≤ 16777216
  pub small : Small s.gate
  pub vision : Seen k holds m (vision_of s)

-- ---- a tick

module _ (start : Start) (n m : ℕ) (holds : Bool) (s : DriveState) (w : Watched start.tick_length n m holds s) (i : SightInput) where
  abbrev action : GateAction
  action = (judged s.gate (sighting_of i.vision_update i.vision_pose_meas) i.predicted_state start).action

  abbrev after : DriveState
  after = (seen start s i).state

  waits : (held : Bool) → Seen start.tick_length held m (vision_of s) → takes action ≡ false → Seen start.tick_length held (m + 1) (vision_of after)
  unfolding vision_after
  waits true v e = rw add-one (held_waits (vision_of s) (sighting_of i.vision_update i.vision_pose_meas) i.predicted_state start m v e)
  waits false v e = (unheld_waits (vision_of s) (sighting_of i.vision_update i.vision_pose_meas) i.predicted_state start v.0 e, refused_seeds s.gate (sighting_of i.vision_update i.vision_pose_meas) i.predicted_state start v.1 e)

  tick_vision : (b : Bool) → takes action ≡ b → Seen start.tick_length (b || holds) (cond b 0 (m + 1)) (vision_of after)
  unfolding vision_after
  tick_vision true e = taken_held (vision_of s) (sighting_of i.vision_update i.vision_pose_meas) i.predicted_state start e
  tick_vision false e = waits holds w.vision e

  tick_watched : s.ticks < 16777216 → Watched start.tick_length (n + 1) (cond (takes action) 0 (m + 1)) (takes action || holds) after
  tick_watched room = record {
    ticks = ap (λ (x : ℕ). x + 1) w.ticks;
    counted = ap (λ (x : ℕ). x + 1) w.counted ∙ sym (grown-sum (number_of action) s.counts (rw w.eight (number_below action)));
    eight = grown-length (number_of action) s.counts ∙ w.eight;
    limit = omega arith;
    small = stays_small s.gate (sighting_of i.vision_update i.vision_pose_meas) i.predicted_state start w.small;
    vision = tick_vision (takes action) refl;
  }

-- ---- any call

module _ (start : Start) (n m : ℕ) (holds : Bool) (s : DriveState) (w : Watched start.tick_length n m holds s) (call : Call) (to : Step) where
  -- what is read off the list after a call with this reply and this state
  abbrev After : Type 0
  After = Watched start.tick_length (cond (is_tick to.reply) (n + 1) n) (cond (took to.reply) 0 (cond (is_tick to.reply) (m + 1) m)) (took to.reply || (not (resets s call to) && holds)) to.state

  ticked : Ticked start s call to → After
  ticked t = rw (t.reset, t.moved) (tick_watched start n m holds s w t.input t.room)

  stood : NoTick s call to → After
  stood t = rw (t.tick, t.taken, t.reset) (go t.cleared t.vision)
    where
      go : (b : Bool) → VisionFrom b s to.state → Watched start.tick_length n m (not b && holds) to.state
      go true v = record {
        ticks = t.ticks ∙ w.ticks;
        counted = t.ticks ∙ w.counted ∙ sym (ap (λ (ns : List ℕ). sum ns) t.counts);
        eight = ap (λ (ns : List ℕ). length ns) t.counts ∙ w.eight;
        limit = rw t.ticks w.limit;
        small = rw v.0 fresh_small;
        vision = (v.1, rw v.0 tt);
      }
      go false v = record {
        ticks = t.ticks ∙ w.ticks;
        counted = t.ticks ∙ w.counted ∙ sym (ap (λ (ns : List ℕ). sum ns) t.counts);
        eight = ap (λ (ns : List ℕ). length ns) t.counts ∙ w.eight;
        limit = rw t.ticks w.limit;
        small = rw v.0 w.small;
        vision = rw (v.0, v.1) w.vision;
      }

  watched : Moves start s call to → After
  watched t = elim t [ inl x ↦ ticked x | inr x ↦ stood x ]

-- ---- any list

new_watched : (k : ℕ) → Watched k 0 0 false new_drive
new_watched k = record { ticks = refl; counted = refl; eight = refl; limit = lit≤ tt; small = fresh_small; vision = (refl, tt) }

pub drive_watched : (start : Start) (h : List Entry)
    → replies_of h ≡ driven_replies start (calls_of h)
    → Watched start.tick_length (ticks_in h) (since h) (holding start h) (driven start (calls_of h))
unfolding driven driven_replies calls_of replies_of ticks_in since holding
drive_watched start [] r = new_watched start.tick_length
drive_watched start (e ∷ h) r =
    rw (head-eq_of_cons-eq r)
    (watched start (ticks_in h) (since h) (holding start h) (driven start (calls_of h)) (drive_watched start h (tail-eq_of_cons-eq r)) e.call (step start (driven start (calls_of h)) e.call) (moves start (driven start (calls_of h)) e.call))
