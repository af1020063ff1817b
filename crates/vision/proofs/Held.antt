-- Gate and clock together, tick by tick: m ticks of k/4096 s after the last taken sighting, with no reset since, t and the vision clock are
-- the sums that the laws of the radius and of the active mark speak of; after a reset the clock stands until a sighting is taken.
use mathlib.Core.Path.{◌≡◌, refl, ap, ◌∙◌}
use Prim.Native.Nat.{ℕ, suc, ◌*◌, ◌≤◌}
use mathlib.Core.Bool.{Bool, true, false}
use lib.Dec.{T, leb}
use lib.IntN.{pos}
use lib.Ieee.{binary32, le, of_int}
use Rattle.std.specs.Prelude.{Option, Some}
use Rattle.linear.specs.declared.Vector3f.{Vector3f}
use Rattle.linear.specs.declared.Vector6f.{Vector6f}
use Rattle.linear.specs.Vector.{zero_float}
use Rattle.tick.specs.declared.start.Start.{Start}
use Rattle.tick.specs.Start.{dt_of}
use Rattle.vision.specs.declared.Vision.{Vision}
use Rattle.tick.specs.Outcome.{takes}
use Rattle.vision.specs.Gate.{distance}
use Rattle.vision.specs.Vision.{active, new_vision, vision_after}
use Rattle.vision.specs.Since.{since_taken, clock_since}
use Rattle.vision.proofs.Outcomes.{taken_restarts, refused_waits}
use Rattle.vision.proofs.Clock.{since_taken_lem, since_reset, reset_stands}
use Rattle.vision.proofs.Radius.{widening_takes}
pub use Rattle.vision.specs.Laws.{Held, Unheld}

module _ (v : Vision) (sighting : Option Vector3f) (predicted : Vector6f) (start : Start) where
  -- whether a tick takes the sighting, and the vision after it
  abbrev taking : Bool
  taking = takes (vision_after v sighting predicted start).action

  abbrev next : Vision
  next = (vision_after v sighting predicted start).vision

  -- a tick that takes a sighting
  pub taken_held : taking ≡ true → Held start.tick_length 0 next
  unfolding vision_after since_taken clock_since
  taken_held e = record { tracking = taken_restarts v.gate sighting predicted start e; clock = rw e }

  -- a tick that takes none
  pub held_waits : (m : ℕ) → Held start.tick_length m v → taking ≡ false → Held start.tick_length (suc m) next
  unfolding vision_after since_taken clock_since
  held_waits m h e = record { tracking = rw h.tracking (refused_waits (since_taken (dt_of start) m) sighting predicted start (rw h.tracking at e)); clock = rw (e, h.clock) }

  pub unheld_waits : Unheld v → taking ≡ false → Unheld next
  unfolding vision_after clock_since
  unheld_waits h e = rw (e, h) (reset_stands (dt_of start) 1)

-- none is held at first
pub new_unheld : Unheld new_vision
new_unheld = refl

-- the active mark
pub held_active : (k m : ℕ) (v : Vision) → k ≤ 64 → Held k m v → active v.time_since_vision_update_s ≡ leb (m * k) 2048
held_active k m v K h = ap active h.clock ∙ (since_taken_lem k m K).mark

pub unheld_inactive : (v : Vision) → Unheld v → active v.time_since_vision_update_s ≡ false
unfolding clock_since
unheld_inactive v h = ap active h ∙ since_reset zero_float 0

-- a sighting within D metres of the predicted place is taken once m * k ≥ 2048 * D
pub held_widens : (start : Start) (m D : ℕ) (v : Vision) → start.tick_length ≤ 64 → 1 ≤ D → D ≤ 64 → 2048 * D ≤ m * start.tick_length → Held start.tick_length m v → (sighting : Vector3f) (predicted : Vector6f) → T (le (distance sighting predicted) (of_int binary32 (pos D)))
    → takes (vision_after v (Some sighting) predicted start).action ≡ true
unfolding vision_after
held_widens start m D v K l g r h sighting predicted near = rw h.tracking (widening_takes start m D K l g r sighting predicted near)
