-- A tick's calls in turn, up to the first that is turned away (docs/RULES.md, 'The five calls').
use Rattle.std.specs.Prelude.{Result, Ok, Err}
use Rattle.tick.specs.declared.inputs.TickInput.{TickInput}
use Rattle.tick.specs.declared.refusal.Refusal.{Refusal}
use Rattle.body_controller.specs.declared.BodyController.{BodyController}
use Rattle.body_controller.specs.declared.Called.{Called}
use Rattle.body_controller.specs.declared.finish.Finished.{Finished}
use Rattle.body_controller.specs.Controller.{refused}
use Rattle.body_controller.specs.Plan.{plan_of}
use Rattle.body_controller.specs.Steer.{steer_of}
use Rattle.body_controller.specs.Finish.{finish_of}

-- the next call, where this one was accepted
abbrev pub if_accepted : {A B : Type 0} → Result A Refusal → BodyController → (BodyController → Called B) → Called B
if_accepted (Ok a) c next = next c
if_accepted (Err r) c next = refused r c

-- steer and finish
abbrev pub from_steer : BodyController → TickInput → Called Finished
from_steer c i = let s = steer_of c i.steer in if_accepted s.answer s.controller (λ d. finish_of d i.finish)

-- plan, steer and finish
abbrev pub from_plan : BodyController → TickInput → Called Finished
from_plan c i = let p = plan_of c i.plan in if_accepted p.answer p.controller (λ d. from_steer d i)
