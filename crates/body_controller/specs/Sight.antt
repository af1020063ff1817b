-- Sight, the tick's first call (docs/RULES.md, 'Sight').
use Rattle.std.specs.Prelude.{ℕ, if◌then◌else◌, not, Ok}
use Rattle.linear.specs.declared.Vector3f.{Vector3f}
use Rattle.linear.specs.declared.Vector6f.{Vector6f}
use Rattle.linear.specs.Vector.{entries4, vector3_of}
use Rattle.linear.specs.Matrix.{product_of}
use Rattle.tick.specs.declared.action.GateAction.{GateAction}
use Rattle.tick.specs.declared.inputs.SightInput.{SightInput}
use Rattle.tick.specs.declared.refusal.Refusal.TheVariants as Why
use Rattle.tick.specs.Outcome.{takes, overwrites}
use Rattle.tick.specs.Tally.{counted, is_full}
use Rattle.vision.specs.Gate.{sighting_of}
use Rattle.control_context.specs.StateEstimate.{seen}
use Rattle.body_controller.specs.declared.BodyController.{BodyController}
use Rattle.body_controller.specs.declared.Called.{Called}
use Rattle.body_controller.specs.declared.Turn.TheVariants as Turns
use Rattle.body_controller.specs.declared.sight.Sighted.{Sighted}
use Rattle.body_controller.specs.Controller.{refused}
use Rattle.body_controller.specs.Turn.{is_sight}

-- ---- the answer

-- the velocity as measured: wheel to twist times the wheel speeds, with the gyro as the third
abbrev pub velocity_of : SightInput → Vector3f
velocity_of i = record (vector3_of (product_of i.wheel2twist (entries4 i.wheel_vel_meas))) { z = i.imu_gyro_theta_meas }

-- an outcome that overwrites sets pose and velocity as measured; any other leaves the prediction
abbrev pub predicted_after : GateAction → SightInput → Vector6f
predicted_after action i =
    if overwrites action then record { pose = i.vision_pose_meas; twist = velocity_of i } else i.predicted_state

-- outcome, measurement, whether vision counts, and the predicted state after any overwriting
abbrev pub sight_answer : GateAction → SightInput → Sighted
sight_answer action i = record {
  action = action;
  measurement = record { vision_pose = i.vision_pose_meas; wheel_vel = i.wheel_vel_meas; gyro_theta = i.imu_gyro_theta_meas };
  effective_vision_update = takes action;
  state_prediction = predicted_after action i;
}

-- ---- the call

-- an accepted call
abbrev pub sighted : BodyController → SightInput → Called Sighted
sighted c i =
    let s = seen c.context (sighting_of i.vision_update i.vision_pose_meas) i.predicted_state in
    record {
      answer = Ok (sight_answer s.action i);
      controller = record c { context = s.context; turn = Turns.Plan; tally = counted c.tally s.action };
    }

unfoldable pub sight_of : BodyController → SightInput → Called Sighted
sight_of c i =
    if not (is_sight c.turn) then refused Why.OutOfTurn c
    else if is_full c.tally then refused Why.TickLimit c
    else sighted c i

-- the refusal's number, 0 where the call is accepted
abbrev pub sight_refusal : BodyController → ℕ
sight_refusal c = if not (is_sight c.turn) then 2 else if is_full c.tally then 3 else 0
