-- What holds after every list of the calls sight, plan, steer, finish and reset from a new controller, refused ones included (docs/RULES.md,
-- 'Every list of calls'). The numbers are read off the list and its answers. The contract of `every_list_of_calls` names the statements.
use Rattle.std.specs.Prelude.{ℕ, ◌+◌, ◌-◌, ◌*◌, ◌/◌, ◌≤◌, ◌≡◌, Bool, true, false, if◌then◌else◌, not, ◌&&◌, ◌||◌, List, [], ◌∷◌, All, sum, T, nat_le, pos, Float, Result, Ok, Err}
use Rattle.std.specs.Float.{binary32}
use Rattle.std.specs.Float.Ieee.{le, of_int}
use Rattle.linear.specs.declared.Vector3f.{Vector3f}
use Rattle.tick.specs.declared.inputs.SightInput.{SightInput}
use Rattle.tick.specs.declared.refusal.Refusal.{Refusal}
use Rattle.tick.specs.declared.start.Start.{Start}
use Rattle.tick.specs.Refusal.{refusal_number}
use Rattle.tick.specs.Start.{IsStart}
use Rattle.tick.specs.Tally.{count_list}
use Rattle.vision.specs.declared.gate.VisionGateState.{VisionGateState}
use Rattle.vision.specs.declared.gate.VisionGateState.TheVariants.{Seeding, Tracking}
use Rattle.vision.specs.Gate.{distance}
use Rattle.vision.specs.Vision.{active}
use Rattle.control_context.specs.declared.maneuvers.PlanAnswer.{PlanAnswer}
use Rattle.body_controller.specs.declared.BodyController.{BodyController}
use Rattle.body_controller.specs.declared.Called.{Called}
use Rattle.body_controller.specs.declared.Turn.{Turn}
use Rattle.body_controller.specs.declared.Turn.TheVariants as Turns
use Rattle.body_controller.specs.declared.sight.Sighted.{Sighted}
use Rattle.body_controller.specs.declared.finish.Finished.{Finished}
use Rattle.body_controller.specs.Controller.{started, new_of, reset_of}
use Rattle.body_controller.specs.Sight.{sight_of}
use Rattle.body_controller.specs.Plan.{plan_of}
use Rattle.body_controller.specs.Steer.{steer_of}
use Rattle.body_controller.specs.Finish.{finish_of}
use Rattle.plain_drive.specs.Calls.{Call, sight, plan, steer, finish, reset, Reply, outcome, answer, accepted, refused, is_tick, took}
use Rattle.plain_drive.specs.PlainDrive.{DriveTurn, to_sight, to_plan, to_steer, to_finish, DriveState, driven, driven_replies, resets_after}

-- ---- a run of the controller

-- what is compared of an answer: of an accepted call what the function says, of a refused one the number
abbrev pub reply_by : {A : Type 0} → (A → Reply) → Result A Refusal → Reply
reply_by f (Ok a) = f a
reply_by f (Err r) = refused (refusal_number r)

abbrev pub sight_reply : Result Sighted Refusal → Reply
sight_reply a = reply_by (λ (s : Sighted). outcome s.action) a

abbrev pub plan_reply : Result PlanAnswer Refusal → Reply
plan_reply a = reply_by answer a

abbrev pub steer_reply : Result Vector3f Refusal → Reply
steer_reply a = reply_by (λ (t : Vector3f). accepted) a

abbrev pub finish_reply : Result Finished Refusal → Reply
finish_reply a = reply_by (λ (f : Finished). accepted) a

-- a call of c gave this reply and the controller d: some result that the call's contract allows has them
abbrev pub Meets : BodyController → Call → Reply → BodyController → Type 0
Meets c (sight i) reply d = (r : Called Sighted) × (r ≡ sight_of c i) × (reply ≡ sight_reply r.answer) × (d ≡ r.controller)
Meets c (plan i) reply d = (r : Called PlanAnswer) × (r ≡ plan_of c i) × (reply ≡ plan_reply r.answer) × (d ≡ r.controller)
Meets c (steer i) reply d = (r : Called Vector3f) × (r ≡ steer_of c i) × (reply ≡ steer_reply r.answer) × (d ≡ r.controller)
Meets c (finish i) reply d = (r : Called Finished) × (r ≡ finish_of c i) × (reply ≡ finish_reply r.answer) × (d ≡ r.controller)
Meets c reset reply d = (r : BodyController) × (r ≡ reset_of c) × (reply ≡ accepted) × (d ≡ r)

-- a call and its reply
pub record Entry : Type 0 where
  pub call : Call
  pub reply : Reply

-- calls and their replies, the latest first, lead from the new controller of this start to c
unfoldable pub Made : Start → List Entry → BodyController → Type 0
Made start [] c = c ≡ started start
Made start (e ∷ h) d = (c : BodyController) × Made start h c × Meets c e.call e.reply d

unfoldable pub calls_of : List Entry → List Call
calls_of [] = []
calls_of (e ∷ h) = e.call ∷ calls_of h

unfoldable pub replies_of : List Entry → List Reply
replies_of [] = []
replies_of (e ∷ h) = e.reply ∷ replies_of h

-- ---- read off the list and its answers

-- the ticks: accepted sight calls
unfoldable pub ticks_in : List Entry → ℕ
ticks_in [] = 0
ticks_in (e ∷ h) = if is_tick e.reply then ticks_in h + 1 else ticks_in h

-- m: the ticks after the last that took a sighting; no reset alters it
unfoldable pub since : List Entry → ℕ
since [] = 0
since (e ∷ h) = if took e.reply then 0 else if is_tick e.reply then since h + 1 else since h

-- a sighting was taken, and no reset by call or recovery came since
unfoldable pub holding : Start → List Entry → Bool
holding start [] = false
holding start (e ∷ h) = took e.reply || (not (resets_after start (calls_of h) e.call) && holding start h)

-- one of the latest n ticks took a sighting
unfoldable pub took_within : ℕ → List Entry → Bool
took_within n [] = false
took_within n (e ∷ h) = if is_tick e.reply then nat_le 1 n && (took e.reply || took_within (n - 1) h) else took_within n h

-- ---- read off the controller

abbrev pub drive_turn : Turn → DriveTurn
drive_turn Turns.Sight = to_sight
drive_turn Turns.Plan = to_plan
drive_turn (Turns.Steer p) = to_steer p.answer p.cmd
drive_turn (Turns.Finish s) = to_finish

-- what the plain drive keeps too
abbrev pub drive_of : BodyController → DriveState
drive_of c = record {
  gate = c.context.vision.gate;
  clock = c.context.vision.time_since_vision_update_s;
  recovering = c.context.divergence;
  held = c.context.memory.held;
  previous = c.context.memory.prev_cmd;
  mode = c.context.prev_mode;
  estimate = c.context.state_estimate;
  turn = drive_turn c.turn;
  ticks = c.tally.ticks;
  counts = count_list c.tally.counts;
}

-- whether the cameras are active
abbrev pub is_active : BodyController → Bool
is_active c = active c.context.vision.time_since_vision_update_s

-- how many sightings a seeding has gathered
abbrev pub gathered_in : VisionGateState → ℕ
gathered_in (Seeding s) = s.n
gathered_in (Tracking t) = 0

-- ---- the controller follows the plain drive

pub record Holds (start : Start) (h : List Entry) (c : BodyController) : Type 0 where
  -- the start is the controller's still
  pub chosen : c.context.start ≡ start
  -- ticks are the accepted sight calls
  pub ticks : c.tally.ticks ≡ ticks_in h
  -- and the sum of the eight counts
  pub counts : c.tally.ticks ≡ sum (count_list c.tally.counts)
  -- the whole state is the plain drive's, and so is the active mark
  pub state : drive_of c ≡ driven start (calls_of h)
  pub mark : is_active c ≡ active (driven start (calls_of h)).clock
  -- every outcome, plan's answer and refusal is the plain drive's, in order
  pub replies : replies_of h ≡ driven_replies start (calls_of h)
  -- the cameras are active exactly when a sighting was taken, no reset came since, and m·k ≤ 2048
  pub cameras : is_active c ≡ holding start h && nat_le (since h * start.tick_length) 2048
  -- with the gate tracking and m·k ≥ 2048·D, a sight call that is accepted takes any sighting computed at most D metres off
  pub widens : (D : ℕ) (t : Float) (i : SightInput) (reply : Reply) (d : BodyController)
      → 1 ≤ D
      → D ≤ 64
      → 2048 * D ≤ since h * start.tick_length
      → c.context.vision.gate ≡ Tracking t
      → i.vision_update ≡ true
      → T (le (distance i.vision_pose_meas i.predicted_state) (of_int binary32 (pos D)))
      → Meets c (sight i) reply d
      → is_tick reply ≡ true
      → took reply ≡ true

abbrev pub FollowsPlainDrive : Type 0
FollowsPlainDrive = (start : Start) (h : List Entry) (c : BodyController) → IsStart start → Made start h c → Holds start h c

-- ---- its companions

-- `new` makes the new controller of a start with k, of each k from 1 to 64
abbrev pub NewIsStarted : Type 0
NewIsStarted = (k : ℕ) → 1 ≤ k → k ≤ 64 → (start : Start) × IsStart start × (start.tick_length ≡ k) × (new_of k ≡ Ok (started start))

-- and makes no other, whatever k is
abbrev pub OnlyStartedIsNew : Type 0
OnlyStartedIsNew =
    (k : ℕ) (c : BodyController) → new_of k ≡ Ok c → (start : Start) × IsStart start × (start.tick_length ≡ k) × (c ≡ started start)

-- every list of calls has a run
abbrev pub EveryListRuns : Type 0
EveryListRuns = (start : Start) (calls : List Call) → IsStart start → (h : List Entry) × (c : BodyController) × (calls_of h ≡ calls) × Made start h c

-- no count ever wraps: after any list each is at most the tick limit, far below 2^32, and a seeding holds fewer than 20 sightings
abbrev pub NothingWraps : Type 0
NothingWraps = (start : Start) (h : List Entry) (c : BodyController) → IsStart start → Made start h c
    → (c.tally.ticks ≤ 16777216) × All (λ (n : ℕ). n ≤ 16777216) (count_list c.tally.counts) × (gathered_in c.context.vision.gate ≤ 19)

-- after any list of calls the cameras are active only if a sighting was taken in the last tick or in one of
-- the 2048/k ticks before it
abbrev pub ActiveMeansSeen : Type 0
ActiveMeansSeen = (start : Start) (h : List Entry) (c : BodyController) → IsStart start → Made start h c
    → is_active c ≡ true → took_within (2048 / start.tick_length + 1) h ≡ true
