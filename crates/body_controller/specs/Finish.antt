-- Finish, the tick's last call (docs/RULES.md, 'Finish').
use Rattle.std.specs.Prelude.{ℕ, Bool, Ok}
use Rattle.std.specs.Option.{option_map_or}
use Rattle.linear.specs.declared.Vector3f.{Vector3f}
use Rattle.linear.specs.Vector.{entries3, vector3_of, vector4_of, difference_of}
use Rattle.linear.specs.Matrix.{product_of}
use Rattle.linear.specs.Rotation.{to_global}
use Rattle.tick.specs.declared.inputs.FinishInput.{FinishInput}
use Rattle.tick.specs.declared.refusal.Refusal.TheVariants as Why
use Rattle.control_context.specs.Clamped.{accel_clamped}
use Rattle.body_controller.specs.declared.BodyController.{BodyController}
use Rattle.body_controller.specs.declared.Called.{Called}
use Rattle.body_controller.specs.declared.Turn.TheVariants as Turns
use Rattle.body_controller.specs.declared.finish.Finished.{Finished}
use Rattle.body_controller.specs.declared.steer.Steered.{Steered}
use Rattle.body_controller.specs.Controller.{refused}
use Rattle.body_controller.specs.Turn.{steered_at}

-- ---- the answer

-- the acceleration less inverse inertia times the friction force in global axes
abbrev pub friction_compensated : Steered → FinishInput → Vector3f
friction_compensated s i =
    difference_of s.setpoints.body_accel (vector3_of (product_of i.i_inv (entries3 (to_global s.heading i.friction_force_local))))

-- the five outputs, the two clamp marks and the wheels' mark
abbrev pub finished_by : Steered → FinishInput → Bool → Finished
finished_by s i wheels_disabled =
    let accel = accel_clamped (friction_compensated s i) in
    record {
      outputs = record {
        body_twist_out = s.setpoints.body_twist;
        body_accel_out = s.setpoints.body_accel;
        body_accel_out_fric_comp = accel.value;
        wheel_vel_out = vector4_of (product_of i.twist2wheel (entries3 s.setpoints.body_twist));
        wheel_torque_out = vector4_of (product_of i.accel2wheel (entries3 accel.value));
      };
      vel_clamped = s.vel_clamped;
      accel_clamped = accel.clamped;
      wheels_disabled = wheels_disabled;
    }

-- ---- the call

-- an accepted call: its outputs are the controller's
abbrev pub finished : BodyController → Steered → FinishInput → Called Finished
finished c s i =
    let f = finished_by s i c.context.wheels_disabled in
    record { answer = Ok f; controller = record c { turn = Turns.Sight; outputs = f.outputs } }

unfoldable pub finish_of : BodyController → FinishInput → Called Finished
finish_of c i = option_map_or (λ s. finished c s i) (steered_at c.turn) (refused Why.OutOfTurn c)

-- the refusal's number, 0 where the call is accepted
abbrev pub finish_refusal : BodyController → ℕ
finish_refusal c = option_map_or (λ s. 0) (steered_at c.turn) 2
