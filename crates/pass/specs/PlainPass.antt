-- The plain drive on a pass: what the lines of blocks given one after the other must say, and what holds after the calls of those blocks. It is fed
-- the blocks alone (docs/RULES.md, 'Every list of blocks').
use Rattle.std.specs.Prelude.{ℕ, ◌≡◌, Bool, true, false, if◌then◌else◌, ◌==◌, List, [], ◌∷◌, Option, Some, None, Result, Ok, Err}
use Rattle.tick.specs.declared.action.GateAction.{GateAction}
use Rattle.tick.specs.declared.inputs.TickInput.{TickInput}
use Rattle.tick.specs.declared.refusal.Refusal.{Refusal}
use Rattle.tick.specs.declared.start.Start.{Start}
use Rattle.tick.specs.Refusal.{refusal_number, number_of}
use Rattle.tick.specs.Start.{IsStart}
use Rattle.tick.specs.Tally.{count_list}
use Rattle.vision.specs.Vision.{active}
use Rattle.control_context.specs.Divergence.{is_recovering}
use Rattle.plain_drive.specs.Calls.{Call, sight, plan, steer, finish, Reply, outcome, answer, accepted, refused}
use Rattle.plain_drive.specs.PlainDrive as Plain
use Rattle.plain_drive.specs.EveryList.{Entry, calls_of, Made, Holds}
use Rattle.line_text.specs.declared.line.Line.{Line}
use Rattle.line_text.specs.declared.line.Line.TheVariants as Lines
use Rattle.tick_block.specs.declared.TickBlock.{TickBlock}
use Rattle.tick_block.specs.Block as Blocks
use Rattle.pass.specs.declared.pass.Pass.{Pass}
use Rattle.pass.specs.declared.pass.Pass.TheVariants.{Empty, Driving}
use Rattle.pass.specs.Pass.{next_number, totals_of, driven}

-- ---- what is compared of a line

-- number, outcome, V, B and the number of the refusal that ended the tick, 0 for none; or number and refusal's number of a refused block
pub data Mark : Type 0 where
  tick : ℕ → Option GateAction → Bool → Bool → ℕ → Mark
  turned_away : ℕ → ℕ → Mark

abbrev pub mark_of : Line → Mark
mark_of (Lines.Tick t) = tick t.number (Some t.action) t.active t.recovering (number_of t.ending)
mark_of (Lines.Refused r) = turned_away r.number (refusal_number r.refusal)

-- ---- the plain drive on blocks

-- before the first accepted block; then what that block chose, and the calls so far, the latest first
pub data PlainPass : Type 0 where
  none : PlainPass
  at : Start → List Call → PlainPass

pub record PlainDriven : Type 0 where
  pub mark : Mark
  pub pass : PlainPass

-- the plain drive's reply to a call after these
abbrev pub reply_after : Start → List Call → Call → Reply
reply_after start calls call = (Plain.step start (Plain.driven start calls) call).reply

abbrev pub is_refused : Reply → Bool
is_refused (outcome a) = false
is_refused (answer p) = false
is_refused accepted = false
is_refused (refused n) = true

-- the refusal's number, 0 where there is none
abbrev pub refusal_in : Reply → ℕ
refusal_in (outcome a) = 0
refusal_in (answer p) = 0
refusal_in accepted = 0
refusal_in (refused n) = n

abbrev pub outcome_in : Reply → Option GateAction
outcome_in (outcome a) = Some a
outcome_in (answer p) = None
outcome_in accepted = None
outcome_in (refused n) = None

-- the number that the next tick would have, and the counts
abbrev pub plain_ticks : PlainPass → ℕ
plain_ticks none = 0
plain_ticks (at start calls) = (Plain.driven start calls).ticks

abbrev pub plain_counts : PlainPass → List ℕ
plain_counts none = Plain.new_drive.counts
plain_counts (at start calls) = (Plain.driven start calls).counts

-- a refused block: nothing changes
abbrev pub refused_at : ℕ → PlainPass → PlainDriven
refused_at n p = record { mark = turned_away (plain_ticks p) n; pass = p }

-- a tick that ended after these calls, with its marks at the end
abbrev pub ended_at : Start → List Call → ℕ → Option GateAction → ℕ → PlainDriven
ended_at start calls number action ending = record {
  mark = tick number action (active (Plain.driven start calls).clock) (is_recovering (Plain.driven start calls).recovering) ending;
  pass = at start calls;
}

-- the calls of a block, up to the first that is turned away
abbrev pub at_finish : Start → List Call → ℕ → Option GateAction → TickInput → PlainDriven
at_finish start calls number action i = ended_at start (finish i.finish ∷ calls) number action (refusal_in (reply_after start calls (finish i.finish)))

abbrev pub at_steer : Start → List Call → ℕ → Option GateAction → TickInput → PlainDriven
at_steer start calls number action i =
    if is_refused (reply_after start calls (steer i.steer))
    then ended_at start (steer i.steer ∷ calls) number action (refusal_in (reply_after start calls (steer i.steer)))
    else at_finish start (steer i.steer ∷ calls) number action i

abbrev pub at_plan : Start → List Call → ℕ → Option GateAction → TickInput → PlainDriven
at_plan start calls number action i =
    if is_refused (reply_after start calls (plan i.plan))
    then ended_at start (plan i.plan ∷ calls) number action (refusal_in (reply_after start calls (plan i.plan)))
    else at_steer start (plan i.plan ∷ calls) number action i

-- of a pass p
abbrev pub plain_tick : PlainPass → Start → List Call → TickInput → PlainDriven
plain_tick p start calls i =
    if is_refused (reply_after start calls (sight i.sight))
    then refused_at (refusal_in (reply_after start calls (sight i.sight))) p
    else at_plan start (sight i.sight ∷ calls) (Plain.driven start calls).ticks (outcome_in (reply_after start calls (sight i.sight))) i

-- the first block's number is 0, and its tick length makes the drive; a later block's tick length is the drive's (9), and its number the next (10)
abbrev pub plain_take : PlainPass → TickBlock → PlainDriven
plain_take none b = if b.number == 0 then plain_tick none (record { tick_length = b.tick_length }) [] b.inputs else refused_at 10 none
plain_take (at start calls) b =
    if b.tick_length == start.tick_length
    then (if b.number == (Plain.driven start calls).ticks then plain_tick (at start calls) start calls b.inputs else refused_at 10 (at start calls))
    else refused_at 9 (at start calls)

abbrev pub plain_read : Result TickBlock Refusal → PlainPass → PlainDriven
plain_read (Ok b) p = plain_take p b
plain_read (Err r) p = refused_at (refusal_number r) p

-- ---- any list of blocks, the latest first

unfoldable pub plain_pass : List (List ℕ) → PlainPass
plain_pass [] = none
plain_pass (block ∷ blocks) = (plain_read (Blocks.block_read block) (plain_pass blocks)).pass

unfoldable pub plain_marks : List (List ℕ) → List Mark
plain_marks [] = []
plain_marks (block ∷ blocks) = (plain_read (Blocks.block_read block) (plain_pass blocks)).mark ∷ plain_marks blocks

-- blocks given one after the other leave these lines and this pass: each is what the contract of `drive` says
unfoldable pub Passed : List (List ℕ) → List Line → Pass → Type 0
Passed [] [] q = q ≡ Empty
Passed [] (line ∷ lines) q = ⊥
Passed (block ∷ blocks) [] q = ⊥
Passed (block ∷ blocks) (line ∷ lines) q = (p : Pass) × Passed blocks lines p × (line ≡ (driven p block).line) × (q ≡ (driven p block).pass)

unfoldable pub marks_of : List Line → List Mark
marks_of [] = []
marks_of (line ∷ lines) = mark_of line ∷ marks_of lines

-- the controller of a pass was made by a list of calls, those of the blocks, and what holds after every list of calls holds of it
abbrev pub StandsOn : Pass → PlainPass → Type 0
StandsOn Empty none = Unit {0}
StandsOn Empty (at start calls) = ⊥
StandsOn (Driving c) none = ⊥
StandsOn (Driving c) (at start calls) = (h : List Entry) × IsStart start × (calls_of h ≡ calls) × Made start h c × Holds start h c

pub record PassHolds (blocks : List (List ℕ)) (lines : List Line) (q : Pass) : Type 0 where
  -- numbers, outcomes, V and B, and refusals of the lines are the plain drive's
  pub marks : marks_of lines ≡ plain_marks blocks
  -- the last line's numbers are its ticks and counts
  pub ticks : next_number q ≡ plain_ticks (plain_pass blocks)
  pub counts : count_list (totals_of q).counts ≡ plain_counts (plain_pass blocks)
  -- so each V means what the cameras' clause of `Holds` says
  pub stands : StandsOn q (plain_pass blocks)

abbrev pub EveryPass : Type 0
EveryPass = (blocks : List (List ℕ)) (lines : List Line) (q : Pass) → Passed blocks lines q → PassHolds blocks lines q
