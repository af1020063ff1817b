-- Each call does to the controller what the plain drive does to its state, answers as it does, and leaves the start.
use mathlib.Core.Path.{◌≡◌, refl, sym, ap, subst, ◌∙◌}
use Prim.Native.Nat.{ℕ}
use mathlib.Core.Bool.{Bool, true, false, cond}
use mathlib.Core.List.{List}
use lib.Dec.{eqb, ltb}
use lib.Ieee.{Float}
use Rattle.linear.specs.declared.Vector4f.{Vector4f}
use Rattle.tick.specs.declared.start.Start.{Start}
use Rattle.tick.specs.declared.action.GateAction.{GateAction}
use Rattle.tick.specs.declared.action.GateAction.TheVariants.{NoVision, Accumulate, SeedComplete, SeedReset, Accept, AcceptJump, FirstReject, Reject}
use Rattle.tick.specs.Outcome.{overwrites, number_of}
use Rattle.vision.specs.Gate.{sighting_of}
use Rattle.vision.specs.Vision.{vision_after}
use Rattle.std.specs.Prelude.{None, Result, Ok, Err}
use Rattle.tick.specs.declared.refusal.Refusal.{Refusal}
use Rattle.tick.specs.declared.refusal.Refusal.TheVariants as Why
use Rattle.tick.specs.declared.command.ManeuverCommand.{ManeuverCommand}
use Rattle.control_context.specs.declared.memory.Memory.{Memory}
use Rattle.control_context.specs.declared.maneuvers.PlanAnswer.{PlanAnswer}
use Rattle.control_context.specs.declared.maneuvers.PlanAnswer.TheVariants as Answers
use Rattle.tick.specs.declared.command.ManeuverCommand.TheVariants as Cmd
use Rattle.tick.specs.Command.{position_from, line_from, command_from}
use Rattle.control_context.specs.Memory.{empty_memory}
use Rattle.control_context.specs.Recovery.{recovery}
use Rattle.body_controller.specs.declared.BodyController.{BodyController}
use Rattle.tick.specs.declared.tally.Counts.{Counts}
use Rattle.tick.specs.declared.inputs.SightInput.{SightInput}
use Rattle.tick.specs.declared.inputs.PlanInput.{PlanInput}
use Rattle.tick.specs.declared.inputs.SteerInput.{SteerInput}
use Rattle.tick.specs.declared.inputs.FinishInput.{FinishInput}
use Rattle.body_controller.specs.declared.steer.Steered.{Steered}
use Rattle.control_context.specs.declared.context.Planned.{Planned}
use Rattle.tick.specs.Tally.{counts_with, count_list, tick_limit}
use Rattle.control_context.specs.declared.context.ControlContext.{ControlContext}
use Rattle.control_context.specs.Following.{Tracked}
use Rattle.control_context.specs.Context as Context
use Rattle.control_context.specs.StateEstimate as ContextSight
use Rattle.control_context.specs.Decision as ContextPlan
use Rattle.control_context.specs.Following as Tracking
use Rattle.body_controller.specs.declared.Turn.{Turn}
use Rattle.body_controller.specs.declared.Turn.TheVariants as Turns
use Rattle.body_controller.specs.Turn.{is_sight, is_plan, planned_at, steered_at}
use Rattle.body_controller.specs.Controller.{reset_of}
use Rattle.body_controller.specs.Sight.{sighted, sight_of}
use Rattle.body_controller.specs.Plan.{plan_with, plan_of}
use Rattle.body_controller.specs.Steer as Steer
use Rattle.body_controller.specs.Finish.{finished, finish_of}
use Rattle.plain_drive.specs.Calls.{sight, plan, steer, finish, reset, Reply, accepted}
use Rattle.plain_drive.specs.PlainDrive as Plain
use Rattle.plain_drive.specs.EveryList.{sight_reply, plan_reply, steer_reply, finish_reply, drive_turn, drive_of}

-- the reply r and the controller d are what the plain drive makes of c's state, and the start stays
pub record Follows (c : BodyController) (to : Plain.Step) (r : Reply) (d : BodyController) : Type 0 where
  pub reply : r ≡ to.reply
  pub state : drive_of d ≡ to.state
  pub start : d.context.start ≡ c.context.start

-- ---- counts

counts_grown : (n : Counts) (a : GateAction) → count_list (counts_with n a) ≡ Plain.grown (number_of a) (count_list n)
unfolding Plain.grown
counts_grown n NoVision = refl
counts_grown n Accumulate = refl
counts_grown n SeedComplete = refl
counts_grown n SeedReset = refl
counts_grown n Accept = refl
counts_grown n AcceptJump = refl
counts_grown n FirstReject = refl
counts_grown n Reject = refl

-- ---- whose turn it is

-- a controller's turn in the plain drive's terms
drive_at : (c : BodyController) (turn : Turn) → c.turn ≡ turn → (drive_of c).turn ≡ drive_turn turn
drive_at c turn e = ap drive_turn e

-- ---- sight

-- both memories are dropped together
dropped : (b : Bool) (m : Memory) → ((cond b empty_memory m).held ≡ cond b None m.held) × ((cond b empty_memory m).prev_cmd ≡ cond b None m.prev_cmd)
dropped true m = (refl, refl)
dropped false m = (refl, refl)

module _ (c : BodyController) (i : SightInput) where
  abbrev action : GateAction
  action = (vision_after c.context.vision (sighting_of i.vision_update i.vision_pose_meas) i.predicted_state c.context.start).action

  sighted_follows : Follows c (Plain.seen c.context.start (drive_of c) i) (sight_reply (sighted c i).answer) (sighted c i).controller
  unfolding ContextSight.seen vision_after
  sighted_follows = record {
    reply = refl;
    state = rw ((dropped (overwrites action) c.context.memory).0, (dropped (overwrites action) c.context.memory).1, counts_grown c.tally.counts action);
    start = refl;
  }

  abbrev OnSight : Plain.DriveTurn → Type 0
  OnSight turn = Follows c (Plain.on_sight turn c.context.start (drive_of c) i) (sight_reply (sight_of c i).answer) (sight_of c i).controller

  pub sight_follows : Follows c (Plain.step c.context.start (drive_of c) (sight i)) (sight_reply (sight_of c i).answer) (sight_of c i).controller
  unfolding sight_of
  sight_follows = go c.turn refl (ltb c.tally.ticks tick_limit) refl
    where
      go : (turn : Turn) → c.turn ≡ turn → (b : Bool) → ltb c.tally.ticks tick_limit ≡ b → OnSight (drive_of c).turn
      go Turns.Sight e true l = subst OnSight (sym (drive_at c _ e)) (rw (ap is_sight e, l) sighted_follows)
      go Turns.Sight e false l = subst OnSight (sym (drive_at c _ e)) (rw (ap is_sight e, l) (record { reply = refl; state = refl; start = refl }))
      go Turns.Plan e b l = subst OnSight (sym (drive_at c _ e)) (rw (ap is_sight e) (record { reply = refl; state = refl; start = refl }))
      go (Turns.Steer p) e b l = subst OnSight (sym (drive_at c _ e)) (rw (ap is_sight e) (record { reply = refl; state = refl; start = refl }))
      go (Turns.Finish s) e b l = subst OnSight (sym (drive_at c _ e)) (rw (ap is_sight e) (record { reply = refl; state = refl; start = refl }))

-- ---- plan

-- a command's words are refused with 4 alone
only_mode : (mode : ℕ) (w : List Float) (r : Refusal) → command_from mode w ≡ Err r → r ≡ Why.Mode
unfolding command_from
only_mode mode w r h = go (eqb mode 0) (eqb mode 1) (eqb mode 2) (eqb mode 3) h
  where
    go : (a b c d : Bool)
        → cond a (Ok Cmd.Off) (cond b (Ok Cmd.Brake) (cond c (Ok (Cmd.GlobalPosition (position_from w))) (cond d (Ok (Cmd.HeadingLine (line_from w))) (Err Why.Mode)))) ≡ Err r
        → r ≡ Why.Mode
    go true b c d e = cc
    go false true c d e = cc
    go false false true d e = cc
    go false false false true e = cc
    go false false false false e = cc

module _ (c : BodyController) (i : PlanInput) where
  -- at plan's turn, by what the command's words gave, which is refused with 4 alone
  command_follows : (a : Result ManeuverCommand Refusal)
      → ((r : Refusal) → a ≡ Err r → r ≡ Why.Mode)
      → Follows c (Plain.on_command a (drive_of c) i) (plan_reply (plan_with a c i).answer) (plan_with a c i).controller
  unfolding ContextPlan.decided_on
  command_follows (Err r) only = rw (only r refl) (record { reply = refl; state = refl; start = refl })
  command_follows (Ok cmd) only = go i.estimator_failed refl
    where
      go : (b : Bool) → i.estimator_failed ≡ b → Follows c (Plain.on_command (Ok cmd) (drive_of c) i) (plan_reply (plan_with (Ok cmd) c i).answer) (plan_with (Ok cmd) c i).controller
      go true e = rw e (record { reply = refl; state = refl; start = refl })
      go false e = rw e (record { reply = refl; state = refl; start = refl })

  abbrev OnPlan : Plain.DriveTurn → Type 0
  OnPlan turn = Follows c (Plain.on_plan turn (drive_of c) i) (plan_reply (plan_of c i).answer) (plan_of c i).controller

  pub plan_follows : (start : Start) → Follows c (Plain.step start (drive_of c) (plan i)) (plan_reply (plan_of c i).answer) (plan_of c i).controller
  unfolding plan_of
  plan_follows start = go c.turn refl
    where
      go : (turn : Turn) → c.turn ≡ turn → OnPlan (drive_of c).turn
      go Turns.Sight e = subst OnPlan (sym (drive_at c _ e)) (rw (ap is_plan e) (record { reply = refl; state = refl; start = refl }))
      go Turns.Plan e = subst OnPlan (sym (drive_at c _ e)) (rw (ap is_plan e) (command_follows (command_from i.mode i.words) (only_mode i.mode i.words)))
      go (Turns.Steer p) e = subst OnPlan (sym (drive_at c _ e)) (rw (ap is_plan e) (record { reply = refl; state = refl; start = refl }))
      go (Turns.Finish s) e = subst OnPlan (sym (drive_at c _ e)) (rw (ap is_plan e) (record { reply = refl; state = refl; start = refl }))

-- ---- reset

pub reset_follows : (c : BodyController) (start : Start) → Follows c (Plain.step start (drive_of c) reset) accepted (reset_of c)
unfolding reset_of
reset_follows c _ = record { reply = refl; state = refl; start = refl }

-- ---- steer

-- a controller with this context, at finish's turn
abbrev at_finish : BodyController → ControlContext → Steered → BodyController
at_finish c context s = record c { context = context; turn = Turns.Finish s }

-- recovery, with finish next
recovered_follows : (c : BodyController) (d : ControlContext) (w : Vector4f) (s : Steered)
    → drive_of (at_finish c (Tracking.recovered d w) s) ≡ Plain.recovered (Tracking.recovery_of d w) (drive_of (at_finish c d s))
recovered_follows c d w s = go (Tracking.recovery_of d w).reset refl
  where
    go : (b : Bool) → (Tracking.recovery_of d w).reset ≡ b → drive_of (at_finish c (Tracking.recovered d w) s) ≡ Plain.recovered (Tracking.recovery_of d w) (drive_of (at_finish c d s))
    go true e = rw e
    go false e = rw e

-- a reset keeps the start too
recovered_start : (d : ControlContext) (w : Vector4f) → (Tracking.recovered d w).start ≡ d.start
recovered_start d w = go (Tracking.recovery_of d w).reset
  where
    go : (b : Bool) → (cond b (Context.context_reset d) (record d { divergence = (Tracking.recovery_of d w).state })).start ≡ d.start
    go true = refl
    go false = refl

module _ (c : BodyController) (p : Planned) (i : SteerInput) where
  abbrev tracked : PlanAnswer → Tracked
  tracked a = Tracking.followed_by a c.context p.cmd i.fresh i.next

  -- tracking, with finish next
  tracked_follows : (a : PlanAnswer) (s : Steered) → drive_of (at_finish c (tracked a).context s) ≡ Plain.followed (drive_of c) a p.cmd i
  tracked_follows Answers.Hold s = refl
  tracked_follows Answers.NoVision s = refl
  tracked_follows Answers.Keep s = refl
  tracked_follows (Answers.NewPlan seed) s = refl

  tracked_start : (a : PlanAnswer) → (tracked a).context.start ≡ c.context.start
  tracked_start Answers.Hold = refl
  tracked_start Answers.NoVision = refl
  tracked_start Answers.Keep = refl
  tracked_start (Answers.NewPlan seed) = refl

  -- what recovery makes of a state of the plain drive
  abbrev recovered_in : Plain.DriveState → Plain.DriveState
  recovered_in s = Plain.recovered (recovery s.recovering (Plain.judged_state s.held) s.estimate i.wheel_vel_meas) s

  both_follow : (s : Steered)
      → drive_of (at_finish c (Tracking.recovered (tracked p.answer).context i.wheel_vel_meas) s) ≡ recovered_in (Plain.followed (drive_of c) p.answer p.cmd i)
  both_follow s = recovered_follows c (tracked p.answer).context i.wheel_vel_meas s ∙ ap recovered_in (tracked_follows p.answer s)

  steered_follows : Follows c (Plain.steered_by (drive_of c) p.answer p.cmd i) (steer_reply (Steer.steered c p i).answer) (Steer.steered c p i).controller
  unfolding Tracking.steered
  steered_follows = record { reply = refl; state = both_follow (Steer.limited (Tracking.steered c.context p i.fresh i.next i.wheel_vel_meas).setpoints i.stop i.heading); start = recovered_start (tracked p.answer).context i.wheel_vel_meas ∙ tracked_start p.answer }

  -- at steer's turn
  planned_follows : (b : Bool) → Steer.fails_at p i ≡ b
      → Follows c (Plain.on_steer (Plain.to_steer p.answer p.cmd) (drive_of c) i) (steer_reply (cond (Steer.fails_at p i) (Steer.planner_failed c) (Steer.steered c p i)).answer) (cond (Steer.fails_at p i) (Steer.planner_failed c) (Steer.steered c p i)).controller
  planned_follows true e = rw e (record { reply = refl; state = refl; start = refl })
  planned_follows false e = rw e steered_follows

module _ (c : BodyController) (i : SteerInput) where
  abbrev OnSteer : Plain.DriveTurn → Type 0
  OnSteer turn = Follows c (Plain.on_steer turn (drive_of c) i) (steer_reply (Steer.steer_of c i).answer) (Steer.steer_of c i).controller

  pub steer_follows : (start : Start) → Follows c (Plain.step start (drive_of c) (steer i)) (steer_reply (Steer.steer_of c i).answer) (Steer.steer_of c i).controller
  unfolding Steer.steer_of
  steer_follows start = go c.turn refl
    where
      go : (turn : Turn) → c.turn ≡ turn → OnSteer (drive_of c).turn
      go Turns.Sight e = subst OnSteer (sym (drive_at c _ e)) (rw (ap planned_at e) (record { reply = refl; state = refl; start = refl }))
      go Turns.Plan e = subst OnSteer (sym (drive_at c _ e)) (rw (ap planned_at e) (record { reply = refl; state = refl; start = refl }))
      go (Turns.Steer p) e = subst OnSteer (sym (drive_at c _ e)) (rw (ap planned_at e) (planned_follows c p i (Steer.fails_at p i) refl))
      go (Turns.Finish s) e = subst OnSteer (sym (drive_at c _ e)) (rw (ap planned_at e) (record { reply = refl; state = refl; start = refl }))

-- ---- finish

module _ (c : BodyController) (i : FinishInput) where
  -- at finish's turn
  finished_follows : (s : Steered) → Follows c (Plain.on_finish Plain.to_finish (drive_of c)) (finish_reply (finished c s i).answer) (finished c s i).controller
  finished_follows s = record { reply = refl; state = refl; start = refl }

  abbrev OnFinish : Plain.DriveTurn → Type 0
  OnFinish turn = Follows c (Plain.on_finish turn (drive_of c)) (finish_reply (finish_of c i).answer) (finish_of c i).controller

  pub finish_follows : (start : Start) → Follows c (Plain.step start (drive_of c) (finish i)) (finish_reply (finish_of c i).answer) (finish_of c i).controller
  unfolding finish_of
  finish_follows start = go c.turn refl
    where
      go : (turn : Turn) → c.turn ≡ turn → OnFinish (drive_of c).turn
      go Turns.Sight e = subst OnFinish (sym (drive_at c _ e)) (rw (ap steered_at e) (record { reply = refl; state = refl; start = refl }))
      go Turns.Plan e = subst OnFinish (sym (drive_at c _ e)) (rw (ap steered_at e) (record { reply = refl; state = refl; start = refl }))
      go (Turns.Steer p) e = subst OnFinish (sym (drive_at c _ e)) (rw (ap steered_at e) (record { reply = refl; state = refl; start = refl }))
      go (Turns.Finish s) e = subst OnFinish (sym (drive_at c _ e)) (rw (ap steered_at e) (finished_follows s))
