-- The plain drive (docs/RULES.md, 'The plain drive'): the short account of a controller's state that every list of calls is held to.
-- It is fed the start and the calls' inputs alone. Of the rules it cites gate, clock, decision and recovery, and nothing of the controller.
use Rattle.std.specs.Prelude.{ℕ, zero, suc, ◌+◌, Bool, true, false, if◌then◌else◌, not, ◌&&◌, ◌||◌, List, [], ◌∷◌, nat_lt, Float, Option, None, Some, option_map, Result, Ok, Err}
use Rattle.linear.specs.declared.Vector6f.{Vector6f}
use Rattle.linear.specs.Vector.{zeros6}
use Rattle.params.specs.declared.TheConstants.{VISION_CLOCK_START_S}
use Rattle.tick.specs.declared.command.ManeuverCommand.{ManeuverCommand}
use Rattle.tick.specs.declared.inputs.SightInput.{SightInput}
use Rattle.tick.specs.declared.inputs.PlanInput.{PlanInput}
use Rattle.tick.specs.declared.inputs.SteerInput.{SteerInput}
use Rattle.tick.specs.declared.refusal.Refusal.{Refusal}
use Rattle.tick.specs.declared.sample.Sample.{Sample}
use Rattle.tick.specs.declared.start.Start.{Start}
use Rattle.tick.specs.Command.{command_from}
use Rattle.tick.specs.Outcome.{takes, overwrites, number_of}
use Rattle.tick.specs.Start.{dt_of}
use Rattle.vision.specs.declared.gate.VisionGateState.{VisionGateState}
use Rattle.vision.specs.declared.gate.VisionGateState.TheVariants.{Seeding}
use Rattle.vision.specs.Seeding.{fresh_seeding}
use Rattle.vision.specs.Gate.{sighting_of, judged}
use Rattle.vision.specs.Vision.{active, clock_after}
use Rattle.control_context.specs.declared.maneuvers.PlanAnswer.{PlanAnswer}
use Rattle.control_context.specs.declared.maneuvers.PlanAnswer.TheVariants.{Hold, NoVision, Keep, NewPlan}
use Rattle.control_context.specs.declared.recovery.TrackingDivergenceState.{TrackingDivergenceState}
use Rattle.control_context.specs.declared.recovery.TrackingDivergenceState.TheVariants.{Normal}
use Rattle.control_context.specs.Divergence.{is_recovering}
use Rattle.control_context.specs.Plan.{decided}
use Rattle.control_context.specs.Recovery.{RecoveryAnswer, recovery}
use Rattle.plain_drive.specs.Calls.{Call, sight, plan, steer, finish, reset, Reply, outcome, answer, accepted, refused, is_reset}

-- ---- the state

-- which call is next; at steer's turn, with plan's answer and command
pub data DriveTurn : Type 0 where
  to_sight : DriveTurn
  to_plan : DriveTurn
  to_steer : PlanAnswer → ManeuverCommand → DriveTurn
  to_finish : DriveTurn

-- the eight counts are in the order of the outcomes, and have no bound
pub record DriveState : Type 0 where
  pub gate : VisionGateState
  pub clock : Float
  pub recovering : TrackingDivergenceState
  pub held : Option Sample
  pub previous : Option ManeuverCommand
  pub mode : ℕ
  pub estimate : Vector6f
  pub turn : DriveTurn
  pub ticks : ℕ
  pub counts : List ℕ

-- as a new controller
abbrev pub new_drive : DriveState
new_drive = record {
  gate = Seeding fresh_seeding;
  clock = VISION_CLOCK_START_S;
  recovering = Normal;
  held = None;
  previous = None;
  mode = 0;
  estimate = zeros6;
  turn = to_sight;
  ticks = 0;
  counts = 0 ∷ 0 ∷ 0 ∷ 0 ∷ 0 ∷ 0 ∷ 0 ∷ 0 ∷ [];
}

-- a call's reply, and the state after it
pub record Step : Type 0 where
  pub reply : Reply
  pub state : DriveState

-- 2, 3 or 4: nothing changes
abbrev pub turned_away : ℕ → DriveState → Step
turned_away n s = record { reply = refused n; state = s }

-- ---- sight

-- one more at a place of the list
unfoldable pub grown : ℕ → List ℕ → List ℕ
grown place [] = []
grown zero (n ∷ ns) = (n + 1) ∷ ns
grown (suc place) (n ∷ ns) = n ∷ grown place ns

-- the gate gives the outcome; ticks and its count grow by one, and the clock moves. An outcome that overwrites drops held sample and
-- previous command
abbrev pub seen : Start → DriveState → SightInput → Step
seen start s i =
    let j = judged s.gate (sighting_of i.vision_update i.vision_pose_meas) i.predicted_state start in
    record {
      reply = outcome j.action;
      state = record s {
        gate = j.gate;
        clock = clock_after s.clock (takes j.action) (dt_of start);
        held = if overwrites j.action then None else s.held;
        previous = if overwrites j.action then None else s.previous;
        turn = to_plan;
        ticks = s.ticks + 1;
        counts = grown (number_of j.action) s.counts;
      };
    }

-- 2, then 3
abbrev pub on_sight : DriveTurn → Start → DriveState → SightInput → Step
on_sight to_sight start s i = if nat_lt s.ticks 16777216 then seen start s i else turned_away 3 s
on_sight to_plan start s i = turned_away 2 s
on_sight (to_steer a cmd) start s i = turned_away 2 s
on_sight to_finish start s i = turned_away 2 s

-- ---- plan

-- the estimate is set; then answer, drops and previous mode are the decision's
abbrev pub decided_on : DriveState → PlanInput → ManeuverCommand → Step
decided_on s i cmd =
    let d = decided i.mode i.halt (is_recovering s.recovering) (active s.clock) cmd (record { held = s.held; prev_cmd = s.previous }) s.mode i.state_estimate in
    record {
      reply = answer d.answer;
      state = record s {
        held = d.memory.held;
        previous = d.memory.prev_cmd;
        mode = d.prev_mode;
        estimate = i.state_estimate;
        turn = to_steer d.answer cmd;
      };
    }

-- the turn passed to sight
abbrev pub closed : DriveState → DriveState
closed s = record s { turn = to_sight }

-- 4; then 11, which only closes the tick
abbrev pub on_command : Result ManeuverCommand Refusal → DriveState → PlanInput → Step
on_command (Err r) s i = turned_away 4 s
on_command (Ok cmd) s i = if i.estimator_failed then record { reply = refused 11; state = closed s } else decided_on s i cmd

-- 2, then those
abbrev pub on_plan : DriveTurn → DriveState → PlanInput → Step
on_plan to_sight s i = turned_away 2 s
on_plan to_plan s i = on_command (command_from i.mode i.words) s i
on_plan (to_steer a cmd) s i = turned_away 2 s
on_plan to_finish s i = turned_away 2 s

-- ---- reset

-- by call or by recovery: a fresh seeding, the clock at its start, Normal, nothing held, no previous command
abbrev pub cleared : DriveState → DriveState
cleared s = record s { gate = Seeding fresh_seeding; clock = VISION_CLOCK_START_S; recovering = Normal; held = None; previous = None }

-- a reset call also sets the previous mode off, and closes the tick
abbrev pub on_reset : DriveState → Step
on_reset s = record { reply = accepted; state = record (cleared s) { mode = 0; turn = to_sight } }

-- ---- steer

-- a planner failure counts only where plan answered that a new plan is needed
abbrev pub plans_anew : PlanAnswer → Bool
plans_anew Hold = false
plans_anew NoVision = false
plans_anew Keep = false
plans_anew (NewPlan seed) = true

-- keep or new plan
abbrev pub tracks : PlanAnswer → Bool
tracks Hold = false
tracks NoVision = false
tracks Keep = true
tracks (NewPlan seed) = true

-- 12 drops the held sample and closes the tick
abbrev pub unplanned : DriveState → Step
unplanned s = record { reply = refused 12; state = record s { held = None; turn = to_sight } }

-- on keep or new plan the next sample is held, and plan's command is the previous one; finish is next
abbrev pub followed : DriveState → PlanAnswer → ManeuverCommand → SteerInput → DriveState
followed s a cmd i = record s {
  held = if tracks a then Some i.next else s.held;
  previous = if tracks a then Some cmd else s.previous;
  turn = to_finish;
}

-- what recovery judges: the state of the sample held by then, if one is
abbrev pub judged_state : Option Sample → Option Vector6f
judged_state held = option_map (λ (s : Sample). s.state) held

-- recovery resets, or gives the recovery state
abbrev pub recovered : RecoveryAnswer → DriveState → DriveState
recovered r s = if r.reset then cleared s else record s { recovering = r.state }

-- recovery runs on any answer
abbrev pub steered_by : DriveState → PlanAnswer → ManeuverCommand → SteerInput → Step
steered_by s a cmd i =
    let f = followed s a cmd i in
    record { reply = accepted; state = recovered (recovery f.recovering (judged_state f.held) f.estimate i.wheel_vel_meas) f }

-- 2, then 12
abbrev pub on_steer : DriveTurn → DriveState → SteerInput → Step
on_steer to_sight s i = turned_away 2 s
on_steer to_plan s i = turned_away 2 s
on_steer (to_steer a cmd) s i = if i.planner_failed && plans_anew a then unplanned s else steered_by s a cmd i
on_steer to_finish s i = turned_away 2 s

-- ---- finish

-- only the turn
abbrev pub on_finish : DriveTurn → DriveState → Step
on_finish to_sight s = turned_away 2 s
on_finish to_plan s = turned_away 2 s
on_finish (to_steer a cmd) s = turned_away 2 s
on_finish to_finish s = record { reply = accepted; state = closed s }

-- ---- any list of calls, the latest first

abbrev pub step : Start → DriveState → Call → Step
step start s (sight i) = on_sight s.turn start s i
step start s (plan i) = on_plan s.turn s i
step start s (steer i) = on_steer s.turn s i
step start s (finish i) = on_finish s.turn s
step start s reset = on_reset s

-- the state after them
unfoldable pub driven : Start → List Call → DriveState
driven start [] = new_drive
driven start (call ∷ calls) = (step start (driven start calls) call).state

-- their replies
unfoldable pub driven_replies : Start → List Call → List Reply
driven_replies start [] = []
driven_replies start (call ∷ calls) = (step start (driven start calls) call).reply ∷ driven_replies start calls

-- a call after them resets: the reset call, or a steer call whose recovery ends, which shows in the recovery state before and after it
abbrev pub resets_after : Start → List Call → Call → Bool
resets_after start calls call =
    is_reset call || (is_recovering (driven start calls).recovering && not (is_recovering (driven start (call ∷ calls)).recovering))
