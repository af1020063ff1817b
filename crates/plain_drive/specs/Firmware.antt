-- control_context.rs and maneuvers/ as their files have them (docs/RULES.md, 'In the Rust's order'): method by method under the Rust's names,
-- each statement in the file's order. Nothing of the controller's calls, and nothing of their rules, is cited: float operations, vectors,
-- constants, the PID with its settings, and equality of commands alone. What the Rust asks crates that are not here is an input: `get_state`,
-- `transform_wheel2twist`, `kf_update`, `make_traj`, `sample`, `z_rotation_mat`, `compute_friction_force`, `i_inv`, `transform_twist2wheel` and
-- `transform_accel2wheel`. `kf_predict` is asked with `body_accel_out`, and the robot model is reset where `reset` is: both show in the state.
use Rattle.std.specs.Prelude.{ℕ, ◌+◌, Bool, true, false, not, if◌then◌else◌, ◌&&◌, ◌||◌, ◌==◌, nat_le, pos, Float, Option, None, Some, Result, Ok, Err}
use Rattle.std.specs.Float.{binary32}
use Rattle.std.specs.Float.Ieee.{of_int, add, sub, mul, div, lt, le, eq}
use Rattle.ieee754.specs.Magnitude.{magnitude}
use Rattle.ieee754.specs.Root.{square_root}
use Rattle.ieee754.specs.Remainder.{remainder_by, tau}
use Rattle.ieee754.specs.Hypot.{hypotenuse}
use Rattle.linear.specs.declared.Vector3f.{Vector3f}
use Rattle.linear.specs.declared.Vector4f.{Vector4f}
use Rattle.linear.specs.declared.Vector6f.{Vector6f}
use Rattle.linear.specs.declared.rotation.Rotation.{Rotation}
use Rattle.linear.specs.Vector.{zero_float, zeros2, zeros3, zeros6, sum_of, difference_of, scaled, entries3, entries4, vector3_of}
use Rattle.linear.specs.Matrix.{product_of}
use Rattle.linear.specs.Rotation.{to_local}
use Rattle.params.specs.declared.TheConstants.{FRICTION_COMP_GATING, POSE_ACCEL_FEEDBACK_GAIN, POSE_VEL_FEEDFORWARD_GAIN, TRACKING_DIVERGENCE_RECOVERY_REST_TICKS, TRACKING_DIVERGENCE_RECOVERY_REST_WHEEL_VEL, TRACKING_ERROR_THRESHOLD, VISION_ACTIVE_TIMEOUT_S, VISION_CLOCK_START_S, VISION_GATE_BASE_RADIUS_M, VISION_GATE_EXPAND_RATE_M_PER_S, VISION_SEED_POS_STD_THRESH_M, VISION_SEED_SAMPLES}
use Rattle.controllers.specs.declared.pid.PidMemory.{PidMemory}
use Rattle.controllers.specs.PidAxes.{calculated_with_derivative, new_memory}
use Rattle.tick.specs.declared.action.GateAction.{GateAction}
use Rattle.tick.specs.declared.action.GateAction.TheVariants.{NoVision, Accumulate, SeedComplete, SeedReset, Accept, AcceptJump, FirstReject, Reject}
use Rattle.tick.specs.declared.command.ManeuverCommand.{ManeuverCommand}
use Rattle.tick.specs.declared.inputs.SightInput.{SightInput}
use Rattle.tick.specs.declared.inputs.SteerInput.{SteerInput}
use Rattle.tick.specs.declared.outputs.Outputs.{Outputs}
use Rattle.tick.specs.declared.refusal.Refusal.{Refusal}
use Rattle.tick.specs.declared.refusal.Refusal.TheVariants as Why
use Rattle.tick.specs.declared.sample.Sample.{Sample}
use Rattle.vision.specs.declared.gate.VisionGateState.{VisionGateState}
use Rattle.vision.specs.declared.gate.VisionGateState.TheVariants as Gate
use Rattle.vision.specs.Seeding.{Seeding}
use Rattle.control_context.specs.declared.recovery.TrackingDivergenceState.{TrackingDivergenceState}
use Rattle.control_context.specs.declared.recovery.TrackingDivergenceState.TheVariants.{Normal, Recovering}
use Rattle.control_context.specs.declared.tracking.ManeuverSetpoints.{ManeuverSetpoints}
use Rattle.control_context.specs.Equality.{equal}
use Rattle.control_context.specs.Setpoints.{pose_pid}
use Rattle.body_controller.specs.declared.sight.Sighted.{Sighted}

-- ---- the state

-- `ControlContext` and `ManeuverManager`, and the five outputs of `BodyController`. Of a trajectory it has what `sample` would give now. Left
-- out are the robot model, what is chosen once, the encoder lag, which the chosen mode does not use, what telemetry alone reads, and `active`,
-- which always is the maneuver of `prev_mode`.
pub record Firmware : Type 0 where
  pub pose_pid_controller : PidMemory 3
  pub trajectory : Option Sample
  pub prev_cmd : Option ManeuverCommand
  pub state_estimate : Vector6f
  pub time_since_vision_update_s : Float
  pub vision_gate : VisionGateState
  pub wheels_disabled : Bool
  pub tracking_divergence_state : TrackingDivergenceState
  pub tracking_recovery_at_rest_ticks : ℕ
  pub prev_mode : ℕ
  pub outputs : Outputs

-- `VisionGateState::default`
abbrev pub gate_default : VisionGateState
gate_default = Gate.Seeding (record { n = 0; pos_sum = zeros2; pos_sq_sum = zeros2 })

-- `ControlContext::new` and `ManeuverManager::new`, around these outputs
abbrev pub context_new : Outputs → Firmware
context_new outputs = record {
  pose_pid_controller = new_memory;
  trajectory = None;
  prev_cmd = None;
  state_estimate = zeros6;
  time_since_vision_update_s = VISION_CLOCK_START_S;
  vision_gate = gate_default;
  wheels_disabled = true;
  tracking_divergence_state = Normal;
  tracking_recovery_at_rest_ticks = 0;
  prev_mode = 0;
  outputs = outputs;
}

-- `ControlContext::vision_active`
abbrev pub vision_active : Firmware → Bool
vision_active s = le s.time_since_vision_update_s VISION_ACTIVE_TIMEOUT_S

-- `ControlContext::reset`
abbrev pub context_reset : Firmware → Firmware
context_reset s = record s {
  pose_pid_controller = new_memory;
  trajectory = None;
  prev_cmd = None;
  time_since_vision_update_s = VISION_CLOCK_START_S;
  vision_gate = gate_default;
  wheels_disabled = true;
  tracking_divergence_state = Normal;
  tracking_recovery_at_rest_ticks = 0;
}

-- `reset_trajectory`
abbrev pub reset_trajectory : Firmware → Firmware
reset_trajectory s = record s { trajectory = None; prev_cmd = None }

-- `ManeuverManager::reset`
abbrev pub manager_reset : Firmware → Firmware
manager_reset s = record s { prev_mode = 0 }

-- ---- `update_state_estimate`

-- the gate's decision, with its accumulator or timer as the decision leaves it
pub record Decided : Type 0 where
  pub gate_action : GateAction
  pub vision_gate : VisionGateState

-- [1] a sighting while seeding: the accumulator grows first
abbrev pub while_seeding : Seeding → Vector3f → Decided
while_seeding s v =
    let n = s.n + 1 in
    let sum_x = add binary32 s.pos_sum.x v.x in
    let sum_y = add binary32 s.pos_sum.y v.y in
    let sq_sum_x = add binary32 s.pos_sq_sum.x (mul binary32 v.x v.x) in
    let sq_sum_y = add binary32 s.pos_sq_sum.y (mul binary32 v.y v.y) in
    let nf = of_int binary32 (pos n) in
    let mean_x = div binary32 sum_x nf in
    let mean_y = div binary32 sum_y nf in
    let var_x = sub binary32 (div binary32 sq_sum_x nf) (mul binary32 mean_x mean_x) in
    let var_y = sub binary32 (div binary32 sq_sum_y nf) (mul binary32 mean_y mean_y) in
    let steady = lt (square_root binary32 var_x) VISION_SEED_POS_STD_THRESH_M && lt (square_root binary32 var_y) VISION_SEED_POS_STD_THRESH_M in
    record {
      gate_action = if nat_le VISION_SEED_SAMPLES n then (if steady then SeedComplete else SeedReset) else Accumulate;
      vision_gate = Gate.Seeding (record { n = n; pos_sum = record { x = sum_x; y = sum_y }; pos_sq_sum = record { x = sq_sum_x; y = sq_sum_y } });
    }

-- a sighting while tracking
abbrev pub while_tracking : Float → Float → Vector3f → Vector6f → Decided
while_tracking dt t v predicted_state =
    let dist = hypotenuse (sub binary32 v.x predicted_state.pose.x) (sub binary32 v.y predicted_state.pose.y) in
    let gate_radius = add binary32 VISION_GATE_BASE_RADIUS_M (mul binary32 VISION_GATE_EXPAND_RATE_M_PER_S t) in
    if lt dist gate_radius
    then record { gate_action = if le VISION_GATE_BASE_RADIUS_M dist then AcceptJump else Accept; vision_gate = Gate.Tracking zero_float }
    else record { gate_action = if eq t zero_float then FirstReject else Reject; vision_gate = Gate.Tracking (add binary32 t dt) }

-- a sighting, by the match on the gate
abbrev pub with_vision : Float → VisionGateState → Vector3f → Vector6f → Decided
with_vision dt (Gate.Seeding s) v predicted_state = while_seeding s v
with_vision dt (Gate.Tracking t) v predicted_state = while_tracking dt t v predicted_state

-- no sighting: the expansion timer advances
abbrev pub without_vision : Float → VisionGateState → VisionGateState
without_vision dt (Gate.Seeding s) = Gate.Seeding s
without_vision dt (Gate.Tracking t) = Gate.Tracking (add binary32 t dt)

-- the whole decision
abbrev pub gate_decision : Float → VisionGateState → SightInput → Decided
gate_decision dt g i =
    if i.vision_update then with_vision dt g i.vision_pose_meas i.predicted_state
    else record { gate_action = NoVision; vision_gate = without_vision dt g }

-- [2] what the decision does to the context
abbrev pub dropped : Firmware → Firmware
dropped s = record s { trajectory = None; prev_cmd = None; pose_pid_controller = new_memory }

-- by the match on the decision
abbrev pub applied : GateAction → Firmware → Firmware
applied SeedComplete s = record (dropped s) { vision_gate = Gate.Tracking zero_float }
applied AcceptJump s = dropped s
applied SeedReset s = record s { vision_gate = gate_default }
applied FirstReject s = s
applied Accept s = s
applied Reject s = s
applied Accumulate s = s
applied NoVision s = s

-- whether the update is effective
abbrev pub is_effective : GateAction → Bool
is_effective SeedComplete = true
is_effective AcceptJump = true
is_effective SeedReset = false
is_effective FirstReject = false
is_effective Accept = true
is_effective Reject = false
is_effective Accumulate = false
is_effective NoVision = false

-- the robot model's state after `kf_set_pose` and `kf_set_vel`, where they are called
abbrev pub snapped : SightInput → Vector6f
snapped i = record {
  pose = i.vision_pose_meas;
  twist = record (vector3_of (product_of i.wheel2twist (entries4 i.wheel_vel_meas))) { z = i.imu_gyro_theta_meas };
}

-- `get_state` behind the match: what was set, or what the model predicted
abbrev pub prediction : GateAction → SightInput → Vector6f
prediction SeedComplete i = snapped i
prediction AcceptJump i = snapped i
prediction SeedReset i = i.predicted_state
prediction FirstReject i = i.predicted_state
prediction Accept i = i.predicted_state
prediction Reject i = i.predicted_state
prediction Accumulate i = i.predicted_state
prediction NoVision i = i.predicted_state

-- [3] the vision activity timer
abbrev pub timed : Float → Bool → Firmware → Firmware
timed dt effective s = record s {
  time_since_vision_update_s =
      if effective then zero_float
      else if le s.time_since_vision_update_s VISION_ACTIVE_TIMEOUT_S then add binary32 s.time_since_vision_update_s dt
      else s.time_since_vision_update_s;
}

-- what it asks of `kf_update`, with the gate's decision, and the context by then
pub record Asked : Type 0 where
  pub sighted : Sighted
  pub firmware : Firmware

-- behind the decision, up to `kf_update`
abbrev pub asked_by : Decided → Float → Firmware → SightInput → Asked
asked_by d dt s i = record {
  sighted = record {
    action = d.gate_action;
    measurement = record { vision_pose = i.vision_pose_meas; wheel_vel = i.wheel_vel_meas; gyro_theta = i.imu_gyro_theta_meas };
    effective_vision_update = is_effective d.gate_action;
    state_prediction = prediction d.gate_action i;
  };
  firmware = timed dt (is_effective d.gate_action) (applied d.gate_action (record s { vision_gate = d.vision_gate }));
}

abbrev pub update_state_estimate : Float → Firmware → SightInput → Asked
update_state_estimate dt s i = asked_by (gate_decision dt s.vision_gate i) dt s i

-- ---- `calc_tracking_setpoints`

-- setpoints, and the context that they leave
pub record Tracked : Type 0 where
  pub setpoints : ManeuverSetpoints
  pub firmware : Firmware

abbrev pub calc_tracking_setpoints : Float → Firmware → Vector6f → Tracked
calc_tracking_setpoints dt s traj_state =
    let pose_estimate = s.state_estimate.pose in
    let traj_pos = record traj_state.pose { z = add binary32 pose_estimate.z (remainder_by binary32 (sub binary32 traj_state.pose.z pose_estimate.z) tau) } in
    let twist_error = difference_of traj_state.twist s.state_estimate.twist in
    let feedback = calculated_with_derivative pose_pid s.pose_pid_controller (entries3 traj_pos) (entries3 pose_estimate) (entries3 twist_error) dt in
    record {
      setpoints = record {
        body_twist = sum_of (scaled traj_state.twist POSE_VEL_FEEDFORWARD_GAIN) zeros3;
        body_accel = sum_of zeros3 (scaled (vector3_of feedback.output) POSE_ACCEL_FEEDBACK_GAIN);
      };
      firmware = record s { pose_pid_controller = feedback.memory };
    }

-- ---- `run_traj_track`

-- setpoints, or the planner's error; the seed where a plan was asked for
pub record Maneuvered : Type 0 where
  pub setpoints : Result ManeuverSetpoints Refusal
  pub seed : Option Vector6f
  pub firmware : Firmware

-- `ManeuverSetpoints::zero`
abbrev pub no_setpoints : ManeuverSetpoints
no_setpoints = record { body_twist = zeros3; body_accel = zeros3 }

-- the trajectory's sample is tracked, and its clock advanced
abbrev pub track : Float → Firmware → ManeuverCommand → Sample → Sample → Option Vector6f → Maneuvered
track dt s cmd sample next seed =
    let t = calc_tracking_setpoints dt (record s { trajectory = Some sample; prev_cmd = Some cmd }) sample.state in
    record { setpoints = Ok t.setpoints; seed = seed; firmware = record t.firmware { trajectory = Some next } }

-- `make_traj`, and on where it gives a trajectory
abbrev pub replan : Float → Firmware → ManeuverCommand → SteerInput → Vector6f → Maneuvered
replan dt s cmd i seed =
    if i.planner_failed then record { setpoints = Err Why.PlannerFailed; seed = Some seed; firmware = record s { trajectory = None } }
    else track dt s cmd i.fresh i.next (Some seed)

-- `command_changed`
abbrev pub command_changed : Option ManeuverCommand → ManeuverCommand → Bool
command_changed None cmd = true
command_changed (Some prev) cmd = not (equal prev cmd)

-- the seed is the trajectory's state, or the estimate where there is none
abbrev pub run_from : Option Sample → Float → Firmware → ManeuverCommand → SteerInput → Maneuvered
run_from None dt s cmd i = replan dt s cmd i s.state_estimate
run_from (Some traj) dt s cmd i = if command_changed s.prev_cmd cmd then replan dt s cmd i traj.state else track dt s cmd traj i.next None

abbrev pub run_traj_track : Float → Firmware → ManeuverCommand → SteerInput → Maneuvered
run_traj_track dt s cmd i = run_from s.trajectory dt s cmd i

-- `update` of global_position.rs and of heading_line.rs: vision is required
abbrev pub update_cmd : Float → Firmware → ManeuverCommand → SteerInput → Maneuvered
update_cmd dt s cmd i =
    if not (vision_active s) then record { setpoints = Ok no_setpoints; seed = None; firmware = record s { wheels_disabled = true } }
    else run_traj_track dt s cmd i

-- `ManeuverManager::tick`
abbrev pub manager_tick : Float → Firmware → ℕ → ManeuverCommand → SteerInput → Maneuvered
manager_tick dt s mode cmd i =
    update_cmd dt (if not (mode == s.prev_mode) then reset_trajectory (record s { prev_mode = mode }) else s) cmd i

-- ---- `update_tracking_divergence_recovery`

abbrev pub tracking_error_exceeded : Option Sample → Vector6f → Bool
tracking_error_exceeded None estimate = false
tracking_error_exceeded (Some traj) estimate =
    let pose = traj.state.pose in
    let twist = traj.state.twist in
    let linear_pose_error = hypotenuse (sub binary32 pose.x estimate.pose.x) (sub binary32 pose.y estimate.pose.y) in
    let angular_pose_error = magnitude (remainder_by binary32 (sub binary32 pose.z estimate.pose.z) tau) in
    let linear_twist_error = hypotenuse (sub binary32 twist.x estimate.twist.x) (sub binary32 twist.y estimate.twist.y) in
    let angular_twist_error = magnitude (sub binary32 twist.z estimate.twist.z) in
    lt TRACKING_ERROR_THRESHOLD.pos_linear linear_pose_error || lt TRACKING_ERROR_THRESHOLD.pos_angular angular_pose_error
    || lt TRACKING_ERROR_THRESHOLD.vel_linear linear_twist_error || lt TRACKING_ERROR_THRESHOLD.vel_angular angular_twist_error

abbrev pub wheel_at_rest : Float → Bool
wheel_at_rest w = lt (magnitude w) TRACKING_DIVERGENCE_RECOVERY_REST_WHEEL_VEL

-- the ticks at rest are counted, up to the reset
abbrev pub rested : ℕ → Firmware → Firmware
rested ticks s =
    if nat_le TRACKING_DIVERGENCE_RECOVERY_REST_TICKS ticks then context_reset (record s { tracking_recovery_at_rest_ticks = ticks })
    else record s { tracking_recovery_at_rest_ticks = ticks }

-- by the match on the state
abbrev pub recovery_from : TrackingDivergenceState → Firmware → Vector4f → Firmware
recovery_from Normal s wheels =
    if tracking_error_exceeded s.trajectory s.state_estimate
    then record s { tracking_divergence_state = Recovering; tracking_recovery_at_rest_ticks = 0 }
    else s
recovery_from Recovering s wheels =
    if wheel_at_rest wheels.x && wheel_at_rest wheels.y && wheel_at_rest wheels.z && wheel_at_rest wheels.w
    then rested (s.tracking_recovery_at_rest_ticks + 1) s
    else rested 0 s

abbrev pub update_tracking_divergence_recovery : Firmware → Vector4f → Firmware
update_tracking_divergence_recovery s wheels = recovery_from s.tracking_divergence_state s wheels

-- ---- `compute_friction`

-- up to `compute_friction_force`, which is asked with this twist
abbrev pub fric_twist_local : Rotation → Firmware → Vector3f → Vector3f → Vector3f
fric_twist_local heading s body_twist body_accel =
    let est_twist_local = to_local heading s.state_estimate.twist in
    let tgt_twist_local = to_local heading body_twist in
    let cmd_accel_local = to_local heading body_accel in
    let lin_vel_mag = hypotenuse est_twist_local.x est_twist_local.y in
    let lin_accel_mag = hypotenuse cmd_accel_local.x cmd_accel_local.y in
    let ang_vel_mag = magnitude est_twist_local.z in
    let ang_accel_mag = magnitude cmd_accel_local.z in
    let linear_comp_on = le FRICTION_COMP_GATING.linear_accel lin_accel_mag || le FRICTION_COMP_GATING.linear_vel lin_vel_mag in
    let angular_comp_on = le FRICTION_COMP_GATING.angular_accel ang_accel_mag || le FRICTION_COMP_GATING.angular_vel ang_vel_mag in
    record {
      x = if linear_comp_on then tgt_twist_local.x else zero_float;
      y = if linear_comp_on then tgt_twist_local.y else zero_float;
      z = if angular_comp_on then tgt_twist_local.z else zero_float;
    }
