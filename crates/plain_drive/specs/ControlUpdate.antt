-- `BodyController` of body_controller.rs in its own order, over specs/Firmware.antt, and what the calls have to do with it (docs/RULES.md,
-- 'In the Rust's order').
use Rattle.std.specs.Prelude.{◌≡◌, Bool, false, not, if◌then◌else◌, ◌||◌, ◌==◌, Float, Option, None, Some, Result, Ok, Err}
use Rattle.std.specs.Result.{result_map_both}
use Rattle.std.specs.Float.{binary32}
use Rattle.std.specs.Float.Ieee.{add, mul, div, lt, ne}
use Rattle.ieee754.specs.Clamp.{clamp_within}
use Rattle.ieee754.specs.Root.{square_root}
use Rattle.linear.specs.declared.Vector3f.{Vector3f}
use Rattle.linear.specs.declared.Vector4f.{Vector4f}
use Rattle.linear.specs.declared.Vector6f.{Vector6f}
use Rattle.linear.specs.Vector.{difference_of, entries3, vector3_of, vector4_of}
use Rattle.linear.specs.Matrix.{product_of}
use Rattle.linear.specs.Rotation.{to_global}
use Rattle.params.specs.declared.TheConstants.{BODY_ACCEL_CLAMP_LINEAR, BODY_ACCEL_CLAMP_ANGULAR, BODY_VEL_CLAMP_LINEAR, BODY_VEL_CLAMP_ANGULAR, STOP_STATE_LINEAR_SPEED_LIMIT}
use Rattle.tick.specs.declared.command.ManeuverCommand.{ManeuverCommand}
use Rattle.tick.specs.declared.inputs.PlanInput.{PlanInput}
use Rattle.tick.specs.declared.inputs.TickInput.{TickInput}
use Rattle.tick.specs.declared.outputs.Outputs.{Outputs}
use Rattle.tick.specs.declared.refusal.Refusal.{Refusal}
use Rattle.tick.specs.declared.refusal.Refusal.TheVariants as Why
use Rattle.tick.specs.declared.start.Start.{Start}
use Rattle.tick.specs.Command.{command_from}
use Rattle.tick.specs.Outputs.{no_outputs}
use Rattle.tick.specs.Start.{dt_of}
use Rattle.tick.specs.Tally.{is_full}
use Rattle.control_context.specs.declared.context.ControlContext.{ControlContext}
use Rattle.control_context.specs.declared.maneuvers.PlanAnswer.{PlanAnswer}
use Rattle.control_context.specs.declared.maneuvers.PlanAnswer.TheVariants.{Hold, NoVision, Keep, NewPlan}
use Rattle.control_context.specs.declared.tracking.ManeuverSetpoints.{ManeuverSetpoints}
use Rattle.control_context.specs.Divergence.{is_recovering}
use Rattle.body_controller.specs.declared.BodyController.{BodyController}
use Rattle.body_controller.specs.declared.Turn.TheVariants as Turns
use Rattle.body_controller.specs.declared.finish.Finished.{Finished}
use Rattle.body_controller.specs.declared.sight.Sighted.{Sighted}
use Rattle.body_controller.specs.Controller.{started, reset_of}
use Rattle.body_controller.specs.Sight.{sight_of}
use Rattle.body_controller.specs.Plan.{plan_of}
use Rattle.body_controller.specs.Steer.{steer_of}
use Rattle.body_controller.specs.InTurn.{from_plan}
use Rattle.plain_drive.specs.Firmware as Rust
use Rattle.plain_drive.specs.Firmware.{Firmware, Maneuvered}

-- ---- `control_update`

-- what the estimator is asked, and the planner and the friction model where they are; the state at the end, and the answer: whether twist and
-- acceleration were clamped, or the error that ended it
pub record Updated : Type 0 where
  pub sighted : Sighted
  pub seed : Option Vector6f
  pub fric_twist : Option Vector3f
  pub firmware : Firmware
  pub answer : Result (Bool × Bool) Refusal

-- the maneuvers are held
abbrev pub hold_maneuvers : Firmware → PlanInput → Bool
hold_maneuvers s i = i.halt || is_recovering s.tracking_divergence_state || i.mode == 0 || i.mode == 1

-- else the maneuver runs
abbrev pub maneuvered : Float → Firmware → ManeuverCommand → TickInput → Maneuvered
maneuvered dt s cmd i =
    if hold_maneuvers s i.plan
    then record { setpoints = Ok Rust.no_setpoints; seed = None; firmware = Rust.reset_trajectory (Rust.manager_reset s) }
    else Rust.manager_tick dt s i.plan.mode cmd i.steer

-- the wheels keep their mark over recovery
abbrev pub recovered : Firmware → Vector4f → Firmware
recovered s wheel_vel_meas =
    let r = Rust.update_tracking_divergence_recovery s wheel_vel_meas in
    if not s.wheels_disabled then record r { wheels_disabled = false } else r

-- the stop state's speed
abbrev pub stop_limited : Bool → Vector3f → Vector3f
stop_limited stop out =
    let linear_speed = square_root binary32 (add binary32 (mul binary32 out.x out.x) (mul binary32 out.y out.y)) in
    let scale = div binary32 STOP_STATE_LINEAR_SPEED_LIMIT linear_speed in
    if stop then (if lt STOP_STATE_LINEAR_SPEED_LIMIT linear_speed then record out { x = mul binary32 out.x scale; y = mul binary32 out.y scale } else out)
    else out

-- the clamps
abbrev pub clamped : Float → Float → Vector3f → Vector3f
clamped linear angular v = record { x = clamp_within v.x linear; y = clamp_within v.y linear; z = clamp_within v.z angular }

-- an entry is not equal to what it was
abbrev pub is_clamped : Vector3f → Vector3f → Bool
is_clamped now before = ne now.x before.x || ne now.y before.y || ne now.z before.z

-- behind recovery and the stop state
abbrev pub put_out : Firmware → Vector3f → Vector3f → TickInput → Sighted → Option Vector6f → Updated
put_out s stopped body_accel_out i sighted seed =
    let body_twist_out = clamped BODY_VEL_CLAMP_LINEAR BODY_VEL_CLAMP_ANGULAR stopped in
    let friction_force_global = to_global i.steer.heading i.finish.friction_force_local in
    let body_accel_fric_comp = difference_of body_accel_out (vector3_of (product_of i.finish.i_inv (entries3 friction_force_global))) in
    let body_accel_out_fric_comp = clamped BODY_ACCEL_CLAMP_LINEAR BODY_ACCEL_CLAMP_ANGULAR body_accel_fric_comp in
    record {
      sighted = sighted;
      seed = seed;
      fric_twist = Some (Rust.fric_twist_local i.steer.heading s body_twist_out body_accel_out);
      firmware = record s {
        outputs = record {
          body_twist_out = body_twist_out;
          body_accel_out = body_accel_out;
          body_accel_out_fric_comp = body_accel_out_fric_comp;
          wheel_vel_out = vector4_of (product_of i.finish.twist2wheel (entries3 body_twist_out));
          wheel_torque_out = vector4_of (product_of i.finish.accel2wheel (entries3 body_accel_out_fric_comp));
        };
      };
      answer = Ok (is_clamped body_twist_out stopped, is_clamped body_accel_out_fric_comp body_accel_fric_comp);
    }

-- a planner's error ends it
abbrev pub after_maneuvers : Result ManeuverSetpoints Refusal → Maneuvered → TickInput → Sighted → Updated
after_maneuvers (Ok setpoints) m i sighted =
    put_out (recovered m.firmware i.sight.wheel_vel_meas) (stop_limited i.steer.stop setpoints.body_twist) setpoints.body_accel i sighted m.seed
after_maneuvers (Err r) m i sighted = record { sighted = sighted; seed = m.seed; fric_twist = None; firmware = m.firmware; answer = Err r }

-- behind `kf_update`, which gave this estimate
abbrev pub estimated : Float → Firmware → ManeuverCommand → TickInput → Sighted → Updated
estimated dt s cmd i sighted =
    let m = maneuvered dt (record s { state_estimate = i.plan.state_estimate }) cmd i in
    after_maneuvers m.setpoints m i sighted

-- on the command cmd, with ticks of dt
unfoldable pub control_update : Float → Firmware → ManeuverCommand → TickInput → Updated
control_update dt s cmd i =
    let a = Rust.update_state_estimate dt (record s { wheels_disabled = false }) i.sight in
    if i.plan.estimator_failed
    then record { sighted = a.sighted; seed = None; fric_twist = None; firmware = a.firmware; answer = Err Why.EstimatorFailed }
    else estimated dt a.firmware cmd i a.sighted

-- `BodyController::new`
abbrev pub firmware_new : Firmware
firmware_new = Rust.context_new no_outputs

-- `BodyController::reset`
abbrev pub firmware_reset : Firmware → Firmware
firmware_reset s = record (Rust.manager_reset (Rust.context_reset s)) { outputs = no_outputs }

-- ---- the calls beside it

-- what a context keeps, by the Rust's names, beside these outputs. Ticks at rest are never kept: the first ends the recovery
abbrev pub firmware_in : ControlContext → Outputs → Firmware
firmware_in c outputs = record {
  pose_pid_controller = c.pose_pid;
  trajectory = c.memory.held;
  prev_cmd = c.memory.prev_cmd;
  state_estimate = c.state_estimate;
  time_since_vision_update_s = c.vision.time_since_vision_update_s;
  vision_gate = c.vision.gate;
  wheels_disabled = c.wheels_disabled;
  tracking_divergence_state = c.divergence;
  tracking_recovery_at_rest_ticks = 0;
  prev_mode = c.prev_mode;
  outputs = outputs;
}

-- what a controller keeps
abbrev pub firmware_of : BodyController → Firmware
firmware_of c = firmware_in c.context c.outputs

-- the seed that plan's answer asks a planner for, and the twist that steer's asks the friction model for
abbrev pub seed_in : Result PlanAnswer Refusal → Option Vector6f
seed_in (Ok Hold) = None
seed_in (Ok NoVision) = None
seed_in (Ok Keep) = None
seed_in (Ok (NewPlan seed)) = Some seed
seed_in (Err r) = None

abbrev pub twist_in : Result Vector3f Refusal → Option Vector3f
twist_in (Ok twist) = Some twist
twist_in (Err r) = None

-- finish's answer, by the Rust's marks and state
abbrev pub finished_as : Updated → Result Finished Refusal
finished_as to =
    result_map_both
    (λ (marks : Bool × Bool). record {
      outputs = to.firmware.outputs;
      vel_clamped = marks.0;
      accel_clamped = marks.1;
      wheels_disabled = to.firmware.wheels_disabled;
    })
    (λ r. r)
    to.answer

-- the controller as sight leaves it, and as plan does
abbrev pub after_sight : BodyController → TickInput → BodyController
after_sight c i = (sight_of c i.sight).controller

abbrev pub after_plan : BodyController → TickInput → BodyController
after_plan c i = (plan_of (after_sight c i) i.plan).controller

-- a tick's calls ask, keep and answer what `control_update` does, and the next tick's sight is next
pub record DoesControlUpdate (c : BodyController) (i : TickInput) (to : Updated) : Type 0 where
  pub sighted : (sight_of c i.sight).answer ≡ Ok to.sighted
  pub seed : seed_in (plan_of (after_sight c i) i.plan).answer ≡ to.seed
  pub fric_twist : twist_in (steer_of (after_plan c i) i.steer).answer ≡ to.fric_twist
  pub firmware : firmware_of (from_plan (after_sight c i) i).controller ≡ to.firmware
  pub answer : (from_plan (after_sight c i) i).answer ≡ finished_as to
  pub turn : (from_plan (after_sight c i) i).controller.turn ≡ Turns.Sight

-- at sight's turn, below the tick limit, on a mode number's command, and with the same wheel speeds to sight and to steer
abbrev pub CallsAreControlUpdate : Type 0
CallsAreControlUpdate =
    (c : BodyController) (i : TickInput) (cmd : ManeuverCommand)
    → c.turn ≡ Turns.Sight
    → is_full c.tally ≡ false
    → command_from i.plan.mode i.plan.words ≡ Ok cmd
    → i.steer.wheel_vel_meas ≡ i.sight.wheel_vel_meas
    → DoesControlUpdate c i (control_update (dt_of c.context.start) (firmware_of c) cmd i)

-- a new controller is the Rust's, and so is what a reset leaves
abbrev pub NewIsFirmwareNew : Type 0
NewIsFirmwareNew = (start : Start) → firmware_of (started start) ≡ firmware_new

abbrev pub ResetIsFirmwareReset : Type 0
ResetIsFirmwareReset = (c : BodyController) → firmware_of (reset_of c) ≡ firmware_reset (firmware_of c)
