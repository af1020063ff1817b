-- Steer, the tick's third call (docs/RULES.md, 'Steer').
use Rattle.std.specs.Prelude.{ℕ, Bool, if◌then◌else◌, ◌&&◌, Ok}
use Rattle.std.specs.Option.{option_map_or}
use Rattle.linear.specs.declared.Vector3f.{Vector3f}
use Rattle.linear.specs.declared.rotation.Rotation.{Rotation}
use Rattle.tick.specs.declared.inputs.SteerInput.{SteerInput}
use Rattle.tick.specs.declared.refusal.Refusal.TheVariants as Why
use Rattle.control_context.specs.declared.context.Planned.{Planned}
use Rattle.control_context.specs.declared.tracking.ManeuverSetpoints.{ManeuverSetpoints}
use Rattle.control_context.specs.Answer.{needs_plan}
use Rattle.control_context.specs.Clamped.{twist_clamped}
use Rattle.control_context.specs.Context as Context
use Rattle.control_context.specs.Following as Following
use Rattle.control_context.specs.Friction.{friction_twist}
use Rattle.control_context.specs.Stop.{stop_scaled}
use Rattle.body_controller.specs.declared.BodyController.{BodyController}
use Rattle.body_controller.specs.declared.Called.{Called}
use Rattle.body_controller.specs.declared.Turn.TheVariants as Turns
use Rattle.body_controller.specs.declared.steer.Steered.{Steered}
use Rattle.body_controller.specs.Controller.{refused}
use Rattle.body_controller.specs.Turn.{planned_at}

-- setpoints with their twist scaled down in the stop state, then clamped
abbrev pub limited : ManeuverSetpoints → Bool → Rotation → Steered
limited asked stop heading =
    let t = twist_clamped (stop_scaled stop asked.body_twist) in
    record { setpoints = record asked { body_twist = t.value }; vel_clamped = t.clamped; heading = heading }

-- an accepted call: setpoints, then recovery, then the limits; it answers the friction twist of what the limits leave
abbrev pub steered : BodyController → Planned → SteerInput → Called Vector3f
steered c p i =
    let t = Following.steered c.context p i.fresh i.next i.wheel_vel_meas in
    let s = limited t.setpoints i.stop i.heading in
    record {
      answer = Ok (friction_twist i.heading t.context.state_estimate s.setpoints);
      controller = record c { context = t.context; turn = Turns.Finish s };
    }

-- the trajectory is dropped and the tick closed; recovery does not run
abbrev pub planner_failed : BodyController → Called Vector3f
planner_failed c = refused Why.PlannerFailed (record c { context = Context.planner_failed c.context; turn = Turns.Sight })

-- a planner failure counts only where plan answered that a new plan is needed
abbrev pub fails_at : Planned → SteerInput → Bool
fails_at p i = i.planner_failed && needs_plan p.answer

unfoldable pub steer_of : BodyController → SteerInput → Called Vector3f
steer_of c i = option_map_or (λ p. if fails_at p i then planner_failed c else steered c p i) (planned_at c.turn) (refused Why.OutOfTurn c)

-- the refusal's number, 0 where the call is accepted
abbrev pub steer_refusal : BodyController → SteerInput → ℕ
steer_refusal c i = option_map_or (λ p. if fails_at p i then 12 else 0) (planned_at c.turn) 2
