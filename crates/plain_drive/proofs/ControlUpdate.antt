-- The calls of a tick beside the Rust's `control_update`, step by step.
use Rattle.std.proofs.lemmas.Bool.Decides.{leb_tells}
use Rattle.std.proofs.Common.{arith, ◌⊎◌, inl, inr, List, eqb-true, ◌≡◌, ℕ, suc, ◌+◌, Bool, true, false, cond, not, ◌&&◌, ◌||◌, refl, sym, ap, ◌∙◌, subst, Option, None, Some, Ok, Err, ltb, eqb, leb}
use lib.Ieee.{Float, lt, le, eq}
use Rattle.linear.specs.declared.Vector3f.{Vector3f}
use Rattle.tick.specs.declared.inputs.SightInput.{SightInput}
use Rattle.tick.specs.declared.outputs.Outputs.{Outputs}
use Rattle.tick.specs.declared.start.Start.{Start}
use Rattle.tick.specs.Start.{dt_of}
use Rattle.linear.specs.declared.Vector6f.{Vector6f}
use Rattle.linear.specs.Vector.{zero_float, difference_of}
use Rattle.params.specs.declared.TheConstants.{VISION_SEED_SAMPLES, VISION_GATE_BASE_RADIUS_M}
use Rattle.tick.specs.declared.action.GateAction.{GateAction}
use Rattle.tick.specs.declared.action.GateAction.TheVariants.{NoVision, Accumulate, SeedComplete, SeedReset, Accept, AcceptJump, FirstReject, Reject}
use Rattle.tick.specs.Outcome.{takes}
use Rattle.vision.specs.declared.gate.VisionGateState.{VisionGateState}
use Rattle.vision.specs.declared.gate.VisionGateState.TheVariants.{Seeding, Tracking}
use Rattle.vision.specs.Seeding as Sums
use Rattle.vision.specs.Gate.{Judgement, sighting_of, judged, seeding_judged, tracking_judged, distance, radius}
use Rattle.vision.specs.Vision.{active, vision_after, clock_after}
use Rattle.control_context.specs.declared.context.ControlContext.{ControlContext}
use Rattle.control_context.specs.StateEstimate.{seen, after_sight}
use Rattle.linear.specs.declared.Vector4f.{Vector4f}
use Rattle.tick.specs.declared.sample.Sample.{Sample}
use Rattle.control_context.specs.declared.recovery.TrackingDivergenceState.{TrackingDivergenceState}
use Rattle.control_context.specs.declared.recovery.TrackingDivergenceState.TheVariants.{Normal, Recovering}
use Rattle.control_context.specs.ErrorLimits.{at_rest}
use Rattle.control_context.specs.Following as Following
use Rattle.control_context.specs.Recovery as Recovery
use Rattle.control_context.specs.Recovery.{recovery}
use Rattle.tick.specs.declared.command.ManeuverCommand.{ManeuverCommand}
use Rattle.tick.specs.declared.command.ManeuverCommand.TheVariants as Cmd
use Rattle.tick.specs.declared.inputs.SteerInput.{SteerInput}
use Rattle.tick.specs.declared.inputs.TickInput.{TickInput}
use Rattle.tick.specs.declared.refusal.Refusal.TheVariants as Why
use Rattle.tick.specs.Command.{position_from, line_from, command_from}
use Rattle.control_context.specs.declared.memory.Memory.{Memory}
use Rattle.control_context.specs.declared.maneuvers.PlanAnswer.{PlanAnswer}
use Rattle.control_context.specs.declared.maneuvers.PlanAnswer.TheVariants as Answers
use Rattle.control_context.specs.declared.maneuvers.PlanAnswer.TheVariants.{Hold, Keep, NewPlan}
use Rattle.control_context.specs.Equality.{command_changed}
use Rattle.control_context.specs.Decision.{Decided, decided_on}
use Rattle.control_context.specs.Divergence.{is_recovering}
use Rattle.control_context.specs.Plan.{holds, in_mode, plans_anew, seed_of, maneuver_answer, decided}
use Rattle.body_controller.specs.declared.BodyController.{BodyController}
use Rattle.body_controller.specs.declared.Turn.TheVariants as Turns
use Rattle.body_controller.specs.declared.sight.Sighted.{Sighted}
use Rattle.control_context.specs.declared.context.Planned.{Planned}
use Rattle.control_context.specs.Clamped.{clamped_to}
use Rattle.control_context.specs.Friction.{friction_twist}
use Rattle.control_context.specs.Setpoints.{tracking_setpoints}
use Rattle.control_context.specs.Stop.{norm_xy, stop_scaled}
use Rattle.params.specs.declared.TheConstants.{STOP_STATE_LINEAR_SPEED_LIMIT}
use Rattle.body_controller.specs.Controller.{started, reset_of}
use Rattle.body_controller.specs.Steer as Steer
use Rattle.body_controller.specs.Steer.{steer_of}
use Rattle.body_controller.specs.Finish.{finish_of}
use Rattle.body_controller.specs.declared.Called.{Called}
use Rattle.body_controller.specs.declared.finish.Finished.{Finished}
use Rattle.body_controller.specs.Turn.{planned_at}
use Rattle.body_controller.specs.Controller.{refused}
use Rattle.body_controller.specs.Plan as Plan
use Rattle.body_controller.specs.Plan.{plan_of}
use Rattle.body_controller.specs.Sight.{sighted, sight_of}
use Rattle.body_controller.specs.Turn.{is_sight}
use Rattle.tick.specs.Tally.{is_full}
use Rattle.body_controller.specs.InTurn.{if_accepted, from_steer, from_plan}
use Rattle.body_controller.specs.Sight.{sight_answer}
use Rattle.plain_drive.specs.Firmware as Rust
use Rattle.plain_drive.specs.Firmware.{Firmware, Maneuvered}
use Rattle.std.specs.Prelude.{unwrap_or}
use Rattle.plain_drive.specs.ControlUpdate as Update
use Rattle.plain_drive.specs.ControlUpdate.{Updated, seed_in, twist_in, DoesControlUpdate, CallsAreControlUpdate, control_update, finished_as, firmware_in, firmware_of, firmware_new, firmware_reset}

-- ---- new and reset

pub new_firmware : (start : Start) → firmware_of (started start) ≡ firmware_new
new_firmware start = refl

pub reset_firmware : (c : BodyController) → firmware_of (reset_of c) ≡ firmware_reset (firmware_of c)
unfolding reset_of
reset_firmware c = refl

-- ---- sight

-- the gate behind the decision
abbrev settled : GateAction → VisionGateState → VisionGateState
settled NoVision g = g
settled Accumulate g = g
settled SeedComplete g = Tracking zero_float
settled SeedReset g = Rust.gate_default
settled Accept g = g
settled AcceptJump g = g
settled FirstReject g = g
settled Reject g = g

-- the gate judges as the Rust decides
abbrev Agrees : Rust.Decided → Judgement → Type 0
Agrees d j = (d.gate_action ≡ j.action) × (settled d.gate_action d.vision_gate ≡ j.gate)

at_least : (a b : ℕ) (t : Bool) → ltb b a ≡ t → leb a b ≡ not t
at_least a b true e = grind (arith, leb_tells a b, leb_tells (suc b) a)
at_least a b false e = grind (arith, leb_tells a b, leb_tells (suc b) a)

while_seeding_agrees : (s : Sums.Seeding) (v : Vector3f) → Agrees (Rust.while_seeding s v) (seeding_judged (Sums.gathered s v))
while_seeding_agrees s v = go (ltb (s.n + 1) VISION_SEED_SAMPLES) refl (Sums.steady (Sums.gathered s v)) refl
  where
    go : (full : Bool) → ltb (s.n + 1) VISION_SEED_SAMPLES ≡ full → (steady : Bool) → Sums.steady (Sums.gathered s v) ≡ steady
        → Agrees (Rust.while_seeding s v) (seeding_judged (Sums.gathered s v))
    go true e b f = rw (e, at_least VISION_SEED_SAMPLES (s.n + 1) true e) (refl, refl)
    go false e true f = rw (e, f, at_least VISION_SEED_SAMPLES (s.n + 1) false e) (refl, refl)
    go false e false f = rw (e, f, at_least VISION_SEED_SAMPLES (s.n + 1) false e) (refl, refl)

while_tracking_agrees : (dt t : Float) (v : Vector3f) (p : Vector6f) → Agrees (Rust.while_tracking dt t v p) (tracking_judged t (distance v p) dt)
while_tracking_agrees dt t v p = go (lt (distance v p) (radius t)) refl (le VISION_GATE_BASE_RADIUS_M (distance v p)) refl (eq t zero_float) refl
  where
    go : (a : Bool) → lt (distance v p) (radius t) ≡ a → (b : Bool) → le VISION_GATE_BASE_RADIUS_M (distance v p) ≡ b → (d : Bool) → eq t zero_float ≡ d
        → Agrees (Rust.while_tracking dt t v p) (tracking_judged t (distance v p) dt)
    go true e true f d g = rw (e, f) (refl, refl)
    go true e false f d g = rw (e, f) (refl, refl)
    go false e b f true g = rw (e, g) (refl, refl)
    go false e b f false g = rw (e, g) (refl, refl)

decides : (start : Start) (g : VisionGateState) (i : SightInput)
    → Agrees (Rust.gate_decision (dt_of start) g i) (judged g (sighting_of i.vision_update i.vision_pose_meas) i.predicted_state start)
unfolding judged
decides start g i = go g i.vision_update refl
  where
    go : (g : VisionGateState) (b : Bool) → i.vision_update ≡ b
        → Agrees (Rust.gate_decision (dt_of start) g i) (judged g (sighting_of i.vision_update i.vision_pose_meas) i.predicted_state start)
    go (Seeding s) false f = rw f (refl, refl)
    go (Tracking t) false f = rw f (refl, refl)
    go (Seeding s) true f = rw f (while_seeding_agrees s i.vision_pose_meas)
    go (Tracking t) true f = rw f (while_tracking_agrees (dt_of start) t i.vision_pose_meas i.predicted_state)

module _ (c : ControlContext) (o : Outputs) (i : SightInput) where
  abbrev Asks : Rust.Asked → GateAction → VisionGateState → Type 0
  Asks a action gate =
      a ≡ record {
        sighted = sight_answer action i;
        firmware =
            firmware_in
            (after_sight c action (record { gate = gate; time_since_vision_update_s = clock_after c.vision.time_since_vision_update_s (takes action) (dt_of c.start) })) o;
      }

  abbrev rust_asks : GateAction → VisionGateState → Rust.Asked
  rust_asks action g = Rust.asked_by (record { gate_action = action; vision_gate = g }) (dt_of c.start) (record (firmware_in c o) { wheels_disabled = false }) i

  built : (action : GateAction) (g : VisionGateState) → Asks (rust_asks action g) action (settled action g)
  built NoVision g = refl
  built Accumulate g = refl
  built SeedComplete g = refl
  built SeedReset g = refl
  built Accept g = refl
  built AcceptJump g = refl
  built FirstReject g = refl
  built Reject g = refl

  asks : Rust.update_state_estimate (dt_of c.start) (record (firmware_in c o) { wheels_disabled = false }) i
      ≡ record {
        sighted = sight_answer (seen c (sighting_of i.vision_update i.vision_pose_meas) i.predicted_state).action i;
        firmware = firmware_in (seen c (sighting_of i.vision_update i.vision_pose_meas) i.predicted_state).context o;
      }
  unfolding seen vision_after
  asks =
      let d = Rust.gate_decision (dt_of c.start) c.vision.gate i in
      let A = decides c.start c.vision.gate i in
      let r = rust_asks d.gate_action d.vision_gate in
      let j = judged c.vision.gate (sighting_of i.vision_update i.vision_pose_meas) i.predicted_state c.start in
      subst (λ (a : GateAction). Asks r a j.gate) A.0 (subst (λ (g : VisionGateState). Asks r d.gate_action g) A.1 (built d.gate_action d.vision_gate))

-- ---- recovery

or_true : (b : Bool) → (b || true) ≡ true
or_true true = refl
or_true false = refl

or_false : (b : Bool) → (b || false) ≡ b
or_false true = refl
or_false false = refl

module _ (c : ControlContext) (o : Outputs) (wheels : Vector4f) where
  abbrev Recovers : Type 0
  Recovers = Update.recovered (firmware_in c o) wheels ≡ firmware_in (Following.recovered c wheels) o

  recovers : Recovers
  unfolding recovery difference_of
  recovers = go c.divergence refl c.wheels_disabled refl c.memory.held refl
    where
      diverged : c.divergence ≡ Normal → (w : Bool) → c.wheels_disabled ≡ w → (s : Sample) → c.memory.held ≡ Some s
          → (b : Bool) → Recovery.tracking_error_exceeded (Some s.state) c.state_estimate ≡ b → Recovers
      diverged e true f s g true h = rw (e, f, g, h)
      diverged e true f s g false h = rw (e, f, g, h)
      diverged e false f s g true h = rw (e, f, g, h)
      diverged e false f s g false h = rw (e, f, g, h)

      rested : c.divergence ≡ Recovering → (w : Bool) → c.wheels_disabled ≡ w → (b : Bool) → at_rest wheels ≡ b → Recovers
      rested e true f true h = rw (e, f, h)
      rested e true f false h = rw (e, f, h)
      rested e false f true h = rw (e, f, h)
      rested e false f false h = rw (e, f, h)

      go : (d : TrackingDivergenceState) → c.divergence ≡ d → (w : Bool) → c.wheels_disabled ≡ w → (held : Option Sample) → c.memory.held ≡ held → Recovers
      go Normal e true f None g = rw (e, f, g)
      go Normal e false f None g = rw (e, f, g)
      go Normal e w f (Some s) g = diverged e w f s g (Recovery.tracking_error_exceeded (Some s.state) c.state_estimate) refl
      go Recovering e w f held g = rested e w f (at_rest wheels) refl

-- ---- plan

-- what an answer makes of a tick, in the Rust's terms
abbrev by_answer : PlanAnswer → Float → Firmware → ManeuverCommand → SteerInput → Maneuvered
by_answer Hold dt s cmd i = record { setpoints = Ok Rust.no_setpoints; seed = None; firmware = s }
by_answer Answers.NoVision dt s cmd i = record { setpoints = Ok Rust.no_setpoints; seed = None; firmware = s }
by_answer Keep dt s cmd i = Rust.track dt s cmd (unwrap_or s.trajectory i.fresh) i.next None
by_answer (NewPlan seed) dt s cmd i = Rust.replan dt s cmd i seed

changed : (prev : Option ManeuverCommand) (cmd : ManeuverCommand) → Rust.command_changed prev cmd ≡ command_changed prev cmd
changed None cmd = refl
changed (Some prev) cmd = refl

-- modes 2 and 3 at a memory m, from a state s that has it
module _ (dt : Float) (s : Firmware) (m : Memory) (held : s.trajectory ≡ m.held) (prev : s.prev_cmd ≡ m.prev_cmd) (cmd : ManeuverCommand) (i : SteerInput) where
  runs : Rust.run_traj_track dt s cmd i ≡ by_answer (maneuver_answer m true cmd s.state_estimate) dt s cmd i
  runs = go m.held refl
    where
      kept : (traj : Sample) → m.held ≡ Some traj → (b : Bool) → command_changed m.prev_cmd cmd ≡ b
          → Rust.run_traj_track dt s cmd i ≡ by_answer (maneuver_answer m true cmd s.state_estimate) dt s cmd i
      kept traj e true f = rw (held, prev, e, changed m.prev_cmd cmd, f)
      kept traj e false f = rw (held, prev, e, changed m.prev_cmd cmd, f)

      go : (h : Option Sample) → m.held ≡ h → Rust.run_traj_track dt s cmd i ≡ by_answer (maneuver_answer m true cmd s.state_estimate) dt s cmd i
      go None e = rw (held, e)
      go (Some traj) e = kept traj e (command_changed m.prev_cmd cmd) refl

-- a command's mode number
mode_is : (mode : ℕ) (w : List Float) (cmd : ManeuverCommand) → command_from mode w ≡ Ok cmd → (mode ≡ 0) ⊎ ((mode ≡ 1) ⊎ ((mode ≡ 2) ⊎ (mode ≡ 3)))
unfolding command_from
mode_is mode w cmd h = go (eqb mode 0) refl (eqb mode 1) refl (eqb mode 2) refl (eqb mode 3) refl h
  where
    go : (a : Bool) → eqb mode 0 ≡ a → (b : Bool) → eqb mode 1 ≡ b → (c : Bool) → eqb mode 2 ≡ c → (d : Bool) → eqb mode 3 ≡ d
        → cond a (Ok Cmd.Off) (cond b (Ok Cmd.Brake) (cond c (Ok (Cmd.GlobalPosition (position_from w))) (cond d (Ok (Cmd.HeadingLine (line_from w))) (Err Why.Mode)))) ≡ Ok cmd
        → (mode ≡ 0) ⊎ ((mode ≡ 1) ⊎ ((mode ≡ 2) ⊎ (mode ≡ 3)))
    go true e b f c g d i h = inl (eqb-true mode 0 e)
    go false e true f c g d i h = inr (inl (eqb-true mode 1 f))
    go false e false f true g d i h = inr (inr (inl (eqb-true mode 2 g)))
    go false e false f false g true i h = inr (inr (inr (eqb-true mode 3 i)))
    go false e false f false g false i h = cc

module _ (c : ControlContext) (o : Outputs) (cmd : ManeuverCommand) (i : TickInput) where
  abbrev decision : Decided
  decision = decided_on c i.plan.mode i.plan.halt cmd i.plan.state_estimate

  -- the estimate is set
  abbrev begun : Firmware
  begun = record (firmware_in c o) { state_estimate = i.plan.state_estimate }

  abbrev Plans : Type 0
  Plans = Update.maneuvered (dt_of c.start) begun cmd i ≡ by_answer decision.answer (dt_of c.start) (firmware_in decision.context o) cmd i.steer

  abbrev ours : Bool
  ours = holds i.plan.mode i.plan.halt (is_recovering c.divergence)

  abbrev theirs : Bool
  theirs = Update.hold_maneuvers begun i.plan

  held_back : ours ≡ true → theirs ≡ true → Plans
  unfolding decided_on decided
  held_back h r = rw (h, r, or_false c.wheels_disabled)

  abbrev remembered : Memory
  remembered = in_mode c.memory i.plan.mode c.prev_mode

  abbrev entered : Firmware
  entered = record begun { trajectory = remembered.held; prev_cmd = remembered.prev_cmd; prev_mode = i.plan.mode }

  enters : cond (not (eqb i.plan.mode c.prev_mode)) (Rust.reset_trajectory (record begun { prev_mode = i.plan.mode })) begun ≡ entered
  enters = go (eqb i.plan.mode c.prev_mode) refl
    where
      go : (same : Bool) → eqb i.plan.mode c.prev_mode ≡ same → cond (not (eqb i.plan.mode c.prev_mode)) (Rust.reset_trajectory (record begun { prev_mode = i.plan.mode })) begun ≡ entered
      go true e = rw (e, eqb-true i.plan.mode c.prev_mode e)
      go false e = rw e

  driven : ours ≡ false → theirs ≡ false → Plans
  unfolding decided_on decided
  driven h r = go (active c.vision.time_since_vision_update_s) refl (plans_anew remembered cmd) refl
    where
      tick : Update.maneuvered (dt_of c.start) begun cmd i ≡ Rust.update_cmd (dt_of c.start) entered cmd i.steer
      tick = rw r (ap (λ (s : Firmware). Rust.update_cmd (dt_of c.start) s cmd i.steer) enters)

      ran : (b : Bool) → plans_anew remembered cmd ≡ b
          → Rust.run_traj_track (dt_of c.start) entered cmd i.steer
          ≡ by_answer (cond b (NewPlan (seed_of remembered.held i.plan.state_estimate)) Keep) (dt_of c.start) entered cmd i.steer
      ran b e = runs (dt_of c.start) entered remembered refl refl cmd i.steer ∙ rw e

      go : (v : Bool) → active c.vision.time_since_vision_update_s ≡ v → (b : Bool) → plans_anew remembered cmd ≡ b → Plans
      go false f b g = tick ∙ rw (h, f, or_true c.wheels_disabled)
      go true f true g = tick ∙ rw (h, f, g, or_false c.wheels_disabled) (ran true g)
      go true f false g = tick ∙ rw (h, f, g, or_false c.wheels_disabled) (ran false g)

  plans : command_from i.plan.mode i.plan.words ≡ Ok cmd → Plans
  plans e = go (mode_is i.plan.mode i.plan.words cmd e) i.plan.halt refl (is_recovering c.divergence) refl
    where
      go : (i.plan.mode ≡ 0) ⊎ ((i.plan.mode ≡ 1) ⊎ ((i.plan.mode ≡ 2) ⊎ (i.plan.mode ≡ 3))) → (halt : Bool) → i.plan.halt ≡ halt → (r : Bool) → is_recovering c.divergence ≡ r → Plans
      go m true h r f = held_back (rw h) (rw h)
      go m false h true f = held_back (rw (h, f)) (rw (h, f))
      go (inl m) false h false f = held_back (rw (m, h, f)) (rw (m, h, f))
      go (inr (inl m)) false h false f = held_back (rw (m, h, f)) (rw (m, h, f))
      go (inr (inr (inl m))) false h false f = driven (rw (m, h, f)) (rw (m, h, f))
      go (inr (inr (inr m))) false h false f = driven (rw (m, h, f)) (rw (m, h, f))

-- ---- steer and finish

stops : (stop : Bool) (v : Vector3f) → Update.stop_limited stop v ≡ stop_scaled stop v
unfolding stop_scaled
stops false v = refl
stops true v = go (lt STOP_STATE_LINEAR_SPEED_LIMIT (norm_xy v)) refl
  where
    go : (b : Bool) → lt STOP_STATE_LINEAR_SPEED_LIMIT (norm_xy v) ≡ b → Update.stop_limited true v ≡ stop_scaled true v
    go true e = rw e
    go false e = rw e

module _ (c : BodyController) (cmd : ManeuverCommand) (i : TickInput) (same : i.steer.wheel_vel_meas ≡ i.sight.wheel_vel_meas) (sighted : Sighted) where
  -- what finish makes of what steer leaves
  abbrev last : Called Vector3f → Called Finished
  last s = if_accepted s.answer s.controller (λ (d : BodyController). finish_of d i.finish)

  -- steer and finish do what the Rust does behind its maneuvers
  pub record Ends (a : PlanAnswer) (s : Called Vector3f) (to : Updated) : Type 0 where
    pub asked : sighted ≡ to.sighted
    pub seed : seed_in (Ok a) ≡ to.seed
    pub fric_twist : twist_in s.answer ≡ to.fric_twist
    pub firmware : firmware_of (last s).controller ≡ to.firmware
    pub answer : (last s).answer ≡ finished_as to
    pub turn : (last s).controller.turn ≡ Turns.Sight

  abbrev dt : Float
  dt = dt_of c.context.start

  abbrev planned : PlanAnswer → Planned
  planned a = record { answer = a; cmd = cmd }

  abbrev followed : PlanAnswer → Following.Tracked
  followed a = Following.followed c.context (planned a) i.steer.fresh i.steer.next

  abbrev put_out : Firmware → Vector3f → PlanAnswer → Updated
  put_out s stopped a = Update.put_out s stopped (followed a).setpoints.body_accel i sighted (seed_in (Ok a))

  steered : (a : PlanAnswer)
      → Ends a (Steer.steered c (planned a) i.steer)
      (put_out (firmware_in (Following.recovered (followed a).context i.steer.wheel_vel_meas) c.outputs) (stop_scaled i.steer.stop (followed a).setpoints.body_twist) a)
  unfolding Following.steered finish_of friction_twist clamped_to
  steered a = record { asked = refl; seed = refl; fric_twist = refl; firmware = refl; answer = refl; turn = refl }

  accepted : (a : PlanAnswer)
      → Ends a (Steer.steered c (planned a) i.steer)
      (put_out
      (Update.recovered (firmware_in (followed a).context c.outputs) i.sight.wheel_vel_meas)
      (Update.stop_limited i.steer.stop (followed a).setpoints.body_twist) a)
  accepted a =
      let E = λ (s : Firmware) (v : Vector3f). Ends a (Steer.steered c (planned a) i.steer) (put_out s v a) in
      let twist = (followed a).setpoints.body_twist in
      subst (λ (v : Vector3f). E (Update.recovered (firmware_in (followed a).context c.outputs) i.sight.wheel_vel_meas) v) (sym (stops i.steer.stop twist))
      (subst (λ (s : Firmware). E s (stop_scaled i.steer.stop twist)) (sym (recovers (followed a).context c.outputs i.sight.wheel_vel_meas))
      (subst (λ (w : Vector4f). E (firmware_in (Following.recovered (followed a).context w) c.outputs) (stop_scaled i.steer.stop twist)) same (steered a)))

  steer_is : (p : Planned) → c.turn ≡ Turns.Steer p → steer_of c i.steer ≡ cond (Steer.fails_at p i.steer) (Steer.planner_failed c) (Steer.steered c p i.steer)
  unfolding steer_of
  steer_is p at = rw (ap planned_at at)

  abbrev Behind : PlanAnswer → Called Vector3f → Type 0
  Behind a s = let m = by_answer a dt (firmware_of c) cmd i.steer in Ends a s (Update.after_maneuvers m.setpoints m i sighted)

  -- a new plan, where the planner fails or not
  replanned : (seed : Vector6f) (fails : Bool)
      → Ends (NewPlan seed) (cond (fails && true) (Steer.planner_failed c) (Steer.steered c (planned (NewPlan seed)) i.steer))
      (let m = cond fails (record { setpoints = Err Why.PlannerFailed; seed = Some seed; firmware = record (firmware_of c) { trajectory = None } }) (Rust.track dt (firmware_of c) cmd i.steer.fresh i.steer.next (Some seed)) in
      Update.after_maneuvers m.setpoints m i sighted)
  unfolding tracking_setpoints
  replanned seed true = record { asked = refl; seed = refl; fric_twist = refl; firmware = refl; answer = refl; turn = refl }
  replanned seed false = accepted (NewPlan seed)

  -- elsewhere the planner's mark is ignored
  ignored : (a : PlanAnswer) (fails : Bool) → Behind a (Steer.steered c (planned a) i.steer) → Behind a (cond (fails && false) (Steer.planner_failed c) (Steer.steered c (planned a) i.steer))
  ignored a true h = h
  ignored a false h = h

  ends : (a : PlanAnswer) → c.turn ≡ Turns.Steer (planned a) → Behind a (steer_of c i.steer)
  unfolding tracking_setpoints
  ends a at = subst (λ (s : Called Vector3f). Behind a s) (sym (steer_is (planned a) at)) (go a)
    where
      go : (a : PlanAnswer) → Behind a (cond (Steer.fails_at (planned a) i.steer) (Steer.planner_failed c) (Steer.steered c (planned a) i.steer))
      go Hold = ignored Hold i.steer.planner_failed (accepted Hold)
      go Answers.NoVision = ignored Answers.NoVision i.steer.planner_failed (accepted Answers.NoVision)
      go Keep = ignored Keep i.steer.planner_failed (accepted Keep)
      go (NewPlan seed) = replanned seed i.steer.planner_failed

-- ---- the tick

module _ (c : BodyController) (i : TickInput) (cmd : ManeuverCommand) (same : i.steer.wheel_vel_meas ≡ i.sight.wheel_vel_meas) (mode : command_from i.plan.mode i.plan.words ≡ Ok cmd) where
  abbrev begins : Called Sighted
  begins = sighted c i.sight

  -- the Rust behind what it asks of its estimator
  abbrev rust_behind : Rust.Asked → Bool → Updated
  rust_behind a failed =
      cond failed (record { sighted = a.sighted; seed = None; fric_twist = None; firmware = a.firmware; answer = Err Why.EstimatorFailed })
      (Update.estimated (dt_of c.context.start) a.firmware cmd i a.sighted)

  abbrev behind_plan : Called PlanAnswer → Called Finished
  behind_plan p = if_accepted p.answer p.controller (λ (d : BodyController). from_steer d i)

  -- from plan on
  pub record Goes (a : Sighted) (p : Called PlanAnswer) (to : Updated) : Type 0 where
    pub asked : a ≡ to.sighted
    pub seed : seed_in p.answer ≡ to.seed
    pub fric_twist : twist_in (steer_of p.controller i.steer).answer ≡ to.fric_twist
    pub firmware : firmware_of (behind_plan p).controller ≡ to.firmware
    pub answer : (behind_plan p).answer ≡ finished_as to
    pub turn : (behind_plan p).controller.turn ≡ Turns.Sight

  goes : (a : Sighted) (failed : Bool)
      → Goes a (cond failed (refused Why.EstimatorFailed (record begins.controller { turn = Turns.Sight })) (Plan.planned begins.controller i.plan cmd))
      (rust_behind (record { sighted = a; firmware = firmware_of begins.controller }) failed)
  unfolding seen decided_on steer_of
  goes a true = record { asked = refl; seed = refl; fric_twist = refl; firmware = refl; answer = refl; turn = refl }
  goes a false =
      let d = begins.controller in
      let p = Plan.planned d i.plan cmd in
      let E = ends p.controller cmd i same a (decision d.context d.outputs cmd i).answer refl in
      subst (λ (m : Maneuvered). Goes a p (Update.after_maneuvers m.setpoints m i a)) (sym (plans d.context d.outputs cmd i mode))
      (record { asked = E.asked; seed = E.seed; fric_twist = E.fric_twist; firmware = E.firmware; answer = E.answer; turn = E.turn })

  plan_is : plan_of begins.controller i.plan
      ≡ cond i.plan.estimator_failed (refused Why.EstimatorFailed (record begins.controller { turn = Turns.Sight })) (Plan.planned begins.controller i.plan cmd)
  unfolding plan_of
  plan_is = rw mode

  sight_is : c.turn ≡ Turns.Sight → is_full c.tally ≡ false → sight_of c i.sight ≡ begins
  unfolding sight_of
  sight_is t full = rw (ap is_sight t, full)

  pub does : c.turn ≡ Turns.Sight → is_full c.tally ≡ false → DoesControlUpdate c i (control_update (dt_of c.context.start) (firmware_of c) cmd i)
  unfolding control_update
  does t full =
      let a = (seen c.context (sighting_of i.sight.vision_update i.sight.vision_pose_meas) i.sight.predicted_state).action in
      let G = goes (sight_answer a i.sight) i.plan.estimator_failed in
      let S = sight_is t full in
      subst (λ (u : Rust.Asked). DoesControlUpdate c i (rust_behind u i.plan.estimator_failed)) (sym (asks c.context c.outputs i.sight))
      (record {
        sighted = ap (λ (s : Called Sighted). s.answer) S ∙ ap (λ (x : Sighted). Ok x) G.asked;
        seed = ap (λ (s : Called Sighted). seed_in (plan_of s.controller i.plan).answer) S ∙ ap (λ (p : Called PlanAnswer). seed_in p.answer) plan_is ∙ G.seed;
        fric_twist = ap (λ (s : Called Sighted). twist_in (steer_of (plan_of s.controller i.plan).controller i.steer).answer) S ∙ ap (λ (p : Called PlanAnswer). twist_in (steer_of p.controller i.steer).answer) plan_is ∙ G.fric_twist;
        firmware = ap (λ (s : Called Sighted). firmware_of (from_plan s.controller i).controller) S ∙ ap (λ (p : Called PlanAnswer). firmware_of (behind_plan p).controller) plan_is ∙ G.firmware;
        answer = ap (λ (s : Called Sighted). (from_plan s.controller i).answer) S ∙ ap (λ (p : Called PlanAnswer). (behind_plan p).answer) plan_is ∙ G.answer;
        turn = ap (λ (s : Called Sighted). (from_plan s.controller i).controller.turn) S ∙ ap (λ (p : Called PlanAnswer). (behind_plan p).controller.turn) plan_is ∙ G.turn;
      })

pub calls_update : CallsAreControlUpdate
calls_update c i cmd t full mode same = does c i cmd same mode t full
