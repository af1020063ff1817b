-- A tick: the four calls, up to the first that is turned away, and its line (docs/RULES.md, 'The five calls' and 'The lines of drive').
use Rattle.std.specs.Prelude.{ℕ, Result, Ok, Err}
use Rattle.std.specs.Result.{result_map_both}
use Rattle.linear.specs.declared.Vector4f.{Vector4f}
use Rattle.tick.specs.declared.action.GateAction.{GateAction}
use Rattle.tick.specs.declared.inputs.TickInput.{TickInput}
use Rattle.tick.specs.declared.refusal.Refusal.{Refusal}
use Rattle.vision.specs.Vision.{active}
use Rattle.control_context.specs.Divergence.{is_recovering}
use Rattle.body_controller.specs.declared.BodyController.{BodyController}
use Rattle.body_controller.specs.declared.Called.{Called}
use Rattle.body_controller.specs.declared.finish.Finished.{Finished}
use Rattle.body_controller.specs.declared.sight.Sighted.{Sighted}
use Rattle.body_controller.specs.Sight.{sight_of}
use Rattle.body_controller.specs.InTurn.{from_plan}
use Rattle.line_text.specs.declared.line.TickLine.{TickLine}

-- a tick's line, and the controller as the tick leaves it
pub record Ticked : Type 0 where
  pub line : TickLine
  pub controller : BodyController

-- four wheel speeds, or the refusal that ended the tick
abbrev pub ending_of : Result Finished Refusal → Result Vector4f Refusal
ending_of a = result_map_both (λ (f : Finished). f.outputs.wheel_vel_out) (λ r. r) a

-- the line of a tick that ended with this call, with the marks at its end
abbrev pub ended_by : Called Finished → ℕ → GateAction → Ticked
ended_by last number action = record {
  line = record {
    number = number;
    action = action;
    active = active last.controller.context.vision.time_since_vision_update_s;
    recovering = is_recovering last.controller.context.divergence;
    ending = ending_of last.answer;
  };
  controller = last.controller;
}

-- c is the controller before sight, and d the one after it; where sight refuses, so is the block
abbrev pub ticked_with : Result Sighted Refusal → BodyController → BodyController → TickInput → Result Ticked Refusal
ticked_with (Ok s) c d i = Ok (ended_by (from_plan d i) c.tally.ticks s.action)
ticked_with (Err r) c d i = Err r

abbrev pub ticked : BodyController → TickInput → Result Ticked Refusal
ticked c i = let s = sight_of c i.sight in ticked_with s.answer c s.controller i
