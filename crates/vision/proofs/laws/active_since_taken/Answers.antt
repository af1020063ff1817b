-- The laws of the active mark.
use Rattle.vision.proofs.Held.{taken_held, held_waits, new_unheld, unheld_waits, held_active, unheld_inactive}
use Rattle.vision.proofs.laws.active_since_taken.Goals as goal

pub returns : goal.returns
returns c = record {
  taken = taken_held;
  waits = held_waits;
  active = held_active;
  new = new_unheld;
  never_taken = unheld_waits;
  inactive = unheld_inactive;
}
