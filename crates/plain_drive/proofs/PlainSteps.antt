-- What a call can do to the plain drive's gate, clock, ticks and counts: a tick moves them, a reset clears gate and clock, and any other call
-- leaves them.
use mathlib.Core.Path.{◌≡◌, refl}
use mathlib.Core.Logic.{◌⊎◌, inl, inr}
use Prim.Native.Nat.{ℕ, ◌<◌}
use mathlib.Core.Bool.{Bool, true, false, cond, not, ◌&&◌, ◌||◌, and-not_self}
use borrow.Author.Tests.{ltb-true}
use lib.Dec.{ltb}
use Rattle.linear.specs.declared.Vector4f.{Vector4f}
use Rattle.linear.specs.declared.Vector6f.{Vector6f}
use Rattle.params.specs.declared.TheConstants.{VISION_CLOCK_START_S}
use Rattle.vision.specs.declared.gate.VisionGateState.TheVariants.{Seeding}
use Rattle.vision.specs.Seeding.{fresh_seeding}
use Rattle.tick.specs.declared.command.ManeuverCommand.{ManeuverCommand}
use Rattle.std.specs.Prelude.{Option, Result, Ok, Err}
use Rattle.tick.specs.declared.refusal.Refusal.{Refusal}
use Rattle.control_context.specs.declared.maneuvers.PlanAnswer.{PlanAnswer}
use Rattle.tick.specs.Command.{command_from}
use Rattle.control_context.specs.declared.recovery.TrackingDivergenceState.{TrackingDivergenceState}
use Rattle.control_context.specs.declared.recovery.TrackingDivergenceState.TheVariants.{Normal, Recovering}
use Rattle.control_context.specs.Divergence.{is_recovering}
use Rattle.control_context.specs.ErrorLimits.{at_rest}
use Rattle.control_context.specs.Recovery.{RecoveryAnswer, tracking_error_exceeded, recovery}
use Rattle.tick.specs.declared.start.Start.{Start}
use Rattle.tick.specs.declared.inputs.SightInput.{SightInput}
use Rattle.tick.specs.declared.inputs.PlanInput.{PlanInput}
use Rattle.tick.specs.declared.inputs.SteerInput.{SteerInput}
use Rattle.tick.specs.declared.inputs.FinishInput.{FinishInput}
use Rattle.plain_drive.specs.Calls.{Call, sight, plan, steer, finish, reset, accepted, refused, is_tick, took, is_reset}
use Rattle.plain_drive.specs.PlainDrive.{DriveTurn, to_sight, to_plan, to_steer, to_finish, DriveState, Step, turned_away, seen, on_sight, decided_on, closed, on_command, on_plan, on_reset, cleared, plans_anew, unplanned, followed, judged_state, steered_by, on_steer, on_finish, step}

-- the call resets: by itself, or by the recovery that it ends
abbrev pub resets : DriveState → Call → Step → Bool
resets s call to = is_reset call || (is_recovering s.recovering && not (is_recovering to.state.recovering))

-- gate and clock of t: cleared, or those of s
abbrev pub VisionFrom : Bool → DriveState → DriveState → Type 0
VisionFrom true s t = (t.gate ≡ Seeding fresh_seeding) × (t.clock ≡ VISION_CLOCK_START_S)
VisionFrom false s t = (t.gate ≡ s.gate) × (t.clock ≡ s.clock)

-- a call that is no tick
pub record NoTick (s : DriveState) (call : Call) (to : Step) : Type 0 where
  pub tick : is_tick to.reply ≡ false
  pub taken : took to.reply ≡ false
  pub ticks : to.state.ticks ≡ s.ticks
  pub counts : to.state.counts ≡ s.counts
  pub cleared : Bool
  pub reset : resets s call to ≡ cleared
  pub vision : VisionFrom cleared s to.state

-- a tick
pub record Ticked (start : Start) (s : DriveState) (call : Call) (to : Step) : Type 0 where
  pub input : SightInput
  pub room : s.ticks < 16777216
  pub moved : to ≡ seen start s input
  pub reset : resets s call to ≡ false

abbrev pub Moves : Start → DriveState → Call → Step → Type 0
Moves start s call to = Ticked start s call to ⊎ NoTick s call to

-- ---- recovery

abbrev ending : TrackingDivergenceState → RecoveryAnswer → Bool
ending before r = is_recovering before && not (is_recovering r.state)

-- recovery resets exactly where it ends
pub recovery_ends : (before : TrackingDivergenceState) (held : Option Vector6f) (estimate : Vector6f) (w : Vector4f)
    → ending before (recovery before held estimate w) ≡ (recovery before held estimate w).reset
unfolding recovery
recovery_ends Normal held estimate w = go (tracking_error_exceeded held estimate)
  where
    go : (b : Bool) → ending Normal (cond b (record { state = Recovering; reset = false }) (record { state = Normal; reset = false })) ≡ (cond {A = RecoveryAnswer} b (record { state = Recovering; reset = false }) (record { state = Normal; reset = false })).reset
    go true = refl
    go false = refl
recovery_ends Recovering held estimate w = go (at_rest w)
  where
    go : (b : Bool) → ending Recovering (cond b (record { state = Normal; reset = true }) (record { state = Recovering; reset = false })) ≡ (cond {A = RecoveryAnswer} b (record { state = Normal; reset = true }) (record { state = Recovering; reset = false })).reset
    go true = refl
    go false = refl

-- ---- a call that is no tick

module _ (s : DriveState) (call : Call) where
  -- recovery state, gate, clock, ticks and counts as they were
  abbrev Same : DriveState → Type 0
  Same t = (t.recovering ≡ s.recovering) × (t.gate ≡ s.gate) × (t.clock ≡ s.clock) × (t.ticks ≡ s.ticks) × (t.counts ≡ s.counts)

  -- such a call, no reset
  still : (to : Step) → is_reset call ≡ false → is_tick to.reply ≡ false → took to.reply ≡ false → Same to.state → NoTick s call to
  still to r t k e = record {
    tick = t;
    taken = k;
    ticks = e.3;
    counts = e.4;
    cleared = false;
    reset = rw (r, e.0) (and-not_self (is_recovering s.recovering));
    vision = (e.1, e.2);
  }

  -- turned away, with this number
  away : (n : ℕ) → is_reset call ≡ false → NoTick s call (turned_away n s)
  away n r = still (turned_away n s) r refl refl (refl, refl, refl, refl, refl)

-- ---- each call

module _ (start : Start) (s : DriveState) where
  sight-moves : (i : SightInput) (turn : DriveTurn) → Moves start s (sight i) (on_sight turn start s i)
  sight-moves i to_sight = go (ltb s.ticks 16777216) refl
    where
      go : (few : Bool) → ltb s.ticks 16777216 ≡ few → Moves start s (sight i) (cond few (seen start s i) (turned_away 3 s))
      go true f = inl (record { input = i; room = ltb-true s.ticks 16777216 f; moved = refl; reset = and-not_self (is_recovering s.recovering) })
      go false f = inr (away s (sight i) 3 refl)
  sight-moves i to_plan = inr (away s (sight i) 2 refl)
  sight-moves i (to_steer a cmd) = inr (away s (sight i) 2 refl)
  sight-moves i to_finish = inr (away s (sight i) 2 refl)

plan_stands : (s : DriveState) (i : PlanInput) (turn : DriveTurn) → NoTick s (plan i) (on_plan turn s i)
plan_stands s i to_sight = away s (plan i) 2 refl
plan_stands s i to_plan = command (command_from i.mode i.words)
  where
    given : (cmd : ManeuverCommand) (failed : Bool) → NoTick s (plan i) (cond failed (record { reply = refused 11; state = closed s }) (decided_on s i cmd))
    given cmd true = still s (plan i) _ refl refl refl (refl, refl, refl, refl, refl)
    given cmd false = still s (plan i) _ refl refl refl (refl, refl, refl, refl, refl)

    command : (a : Result ManeuverCommand Refusal) → NoTick s (plan i) (on_command a s i)
    command (Err r) = away s (plan i) 4 refl
    command (Ok cmd) = given cmd i.estimator_failed
plan_stands s i (to_steer a cmd) = away s (plan i) 2 refl
plan_stands s i to_finish = away s (plan i) 2 refl

left_true : (a b : Bool) → a && b ≡ true → a && true ≡ true
left_true true b e = refl
left_true false b e = e

module _ (s : DriveState) (i : SteerInput) (a : PlanAnswer) (cmd : ManeuverCommand) where
  abbrev tracked : DriveState
  tracked = followed s a cmd i

  abbrev judged : RecoveryAnswer
  judged = recovery s.recovering (judged_state tracked.held) s.estimate i.wheel_vel_meas

  -- recovery clears where it ends
  steered_stands : NoTick s (steer i) (steered_by s a cmd i)
  steered_stands = go judged.reset (recovery_ends s.recovering (judged_state tracked.held) s.estimate i.wheel_vel_meas)
    where
      go : (b : Bool) → ending s.recovering judged ≡ b → NoTick s (steer i) (record { reply = accepted; state = cond b (cleared tracked) (record tracked { recovering = judged.state }) })
      go true e = record { tick = refl; taken = refl; ticks = refl; counts = refl; cleared = true; reset = left_true (is_recovering s.recovering) _ e; vision = (refl, refl) }
      go false e = record { tick = refl; taken = refl; ticks = refl; counts = refl; cleared = false; reset = e; vision = (refl, refl) }

steer_stands : (s : DriveState) (i : SteerInput) (turn : DriveTurn) → NoTick s (steer i) (on_steer turn s i)
steer_stands s i to_sight = away s (steer i) 2 refl
steer_stands s i to_plan = away s (steer i) 2 refl
steer_stands s i (to_steer a cmd) = go (i.planner_failed && plans_anew a)
  where
    go : (failed : Bool) → NoTick s (steer i) (cond failed (unplanned s) (steered_by s a cmd i))
    go true = still s (steer i) (unplanned s) refl refl refl (refl, refl, refl, refl, refl)
    go false = steered_stands s i a cmd
steer_stands s i to_finish = away s (steer i) 2 refl

finish_stands : (s : DriveState) (i : FinishInput) (turn : DriveTurn) → NoTick s (finish i) (on_finish turn s)
finish_stands s i to_sight = away s (finish i) 2 refl
finish_stands s i to_plan = away s (finish i) 2 refl
finish_stands s i (to_steer a cmd) = away s (finish i) 2 refl
finish_stands s i to_finish = still s (finish i) (on_finish to_finish s) refl refl refl (refl, refl, refl, refl, refl)

reset_stands : (s : DriveState) → NoTick s reset (on_reset s)
reset_stands s = record { tick = refl; taken = refl; ticks = refl; counts = refl; cleared = true; reset = refl; vision = (refl, refl) }

pub moves : (start : Start) (s : DriveState) (call : Call) → Moves start s call (step start s call)
moves start s (sight i) = sight-moves start s i s.turn
moves start s (plan i) = inr (plan_stands s i s.turn)
moves start s (steer i) = inr (steer_stands s i s.turn)
moves start s (finish i) = inr (finish_stands s i s.turn)
moves start s reset = inr (reset_stands s)
