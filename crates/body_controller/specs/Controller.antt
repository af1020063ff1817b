-- A new controller, a refused call, and the reset call (docs/RULES.md, 'A new controller', 'The five calls' and 'Reset').
use Rattle.std.specs.Prelude.{ℕ, Result, Err}
use Rattle.std.specs.Result.{result_map_both}
use Rattle.linear.specs.Vector.{zeros6}
use Rattle.tick.specs.declared.refusal.Refusal.{Refusal}
use Rattle.tick.specs.declared.start.Start.{Start}
use Rattle.tick.specs.Start.{start_of}
use Rattle.tick.specs.Tally.{no_totals}
use Rattle.tick.specs.Outputs.{no_outputs}
use Rattle.control_context.specs.Context.{new_context}
use Rattle.body_controller.specs.declared.BodyController.{BodyController}
use Rattle.body_controller.specs.declared.Called.{Called}
use Rattle.body_controller.specs.declared.Turn.TheVariants as Turns

-- nothing seen, nothing counted, at sight's turn
abbrev pub started : Start → BodyController
started start = record {
  context = new_context start zeros6;
  turn = Turns.Sight;
  outputs = no_outputs;
  tally = no_totals;
}

-- the answer to a k: a controller where k is a tick length's
abbrev pub new_of : ℕ → Result BodyController Refusal
new_of k = result_map_both started (λ r. r) (start_of k)

-- a call that is refused, with the controller that it leaves
abbrev pub refused : {A : Type 0} → Refusal → BodyController → Called A
refused r c = record { answer = Err r; controller = c }

-- the reset call: a new controller around the estimate, with ticks and counts as they were
unfoldable pub reset_of : BodyController → BodyController
reset_of c = record (started c.context.start) {
  context = new_context c.context.start c.context.state_estimate;
  tally = c.tally;
}
