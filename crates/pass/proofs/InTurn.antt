-- What a tick's calls behind sight leave, from what each of them leaves.
use Rattle.std.specs.Prelude.{Result, Ok, Err}
use Rattle.tick.specs.declared.inputs.TickInput.{TickInput}
use Rattle.tick.specs.declared.refusal.Refusal.{Refusal}
use Rattle.body_controller.specs.declared.BodyController.{BodyController}
use Rattle.body_controller.specs.declared.Called.{Called}
use Rattle.body_controller.specs.Plan.{plan_of}
use Rattle.body_controller.specs.Steer.{steer_of}
use Rattle.body_controller.specs.Finish.{finish_of}
use Rattle.body_controller.specs.InTurn.{if_accepted, from_steer, from_plan}

-- each call leaves P up to steer and Q from it on
pub record Leaves (P Q : BodyController → Type 0) (i : TickInput) : Type 0 where
  pub closes : (c : BodyController) → P c → Q c
  pub plans : (c : BodyController) → P c → P (plan_of c i.plan).controller
  pub steers : (c : BodyController) → P c → Q (steer_of c i.steer).controller
  pub finishes : (c : BodyController) → Q c → Q (finish_of c i.finish).controller

module _ (P Q : BodyController → Type 0) (i : TickInput) (l : Leaves P Q i) where
  accepted_or : {A B : Type 0} (a : Result A Refusal) (c : BodyController) (next : BodyController → Called B) → Q c → Q (next c).controller → Q (if_accepted a c next).controller
  accepted_or (Ok x) c next q n = n
  accepted_or (Err r) c next q n = q

  from_steer_ends : (c : BodyController) → P c → Q (from_steer c i).controller
  from_steer_ends c p = accepted_or (steer_of c i.steer).answer _ (λ d. finish_of d i.finish) (l.steers c p) (l.finishes _ (l.steers c p))

  pub from_plan_ends : (c : BodyController) → P c → Q (from_plan c i).controller
  from_plan_ends c p = accepted_or (plan_of c i.plan).answer _ (λ d. from_steer d i) (l.closes _ (l.plans c p)) (from_steer_ends _ (l.plans c p))
