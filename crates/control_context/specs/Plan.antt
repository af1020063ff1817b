-- The one decision over mode, halt, recovery and vision (docs/RULES.md, 'Plan').
use Rattle.std.specs.Prelude.{ℕ, Bool, if◌then◌else◌, not, ◌||◌, ◌==◌, nat_lt, Option, None, Some, is_none}
use Rattle.linear.specs.declared.Vector6f.{Vector6f}
use Rattle.tick.specs.declared.command.ManeuverCommand.{ManeuverCommand}
use Rattle.tick.specs.declared.sample.Sample.{Sample}
use Rattle.control_context.specs.declared.memory.Memory.{Memory}
use Rattle.control_context.specs.declared.maneuvers.PlanAnswer.{PlanAnswer}
use Rattle.control_context.specs.declared.maneuvers.PlanAnswer.TheVariants.{Hold, NoVision, Keep, NewPlan}
use Rattle.tick.specs.Mode.{is_mode}
use Rattle.control_context.specs.Memory.{empty_memory}
use Rattle.control_context.specs.Equality.{command_changed}

-- plan's answer, with the memory and the previous mode that it leaves
pub record Decision : Type 0 where
  pub answer : PlanAnswer
  pub memory : Memory
  pub prev_mode : ℕ

-- hold if halt, recovering, or mode 0 or 1. A number that is no mode holds too; callers refuse it first
abbrev pub holds : ℕ → Bool → Bool → Bool
holds mode halt recovering = halt || recovering || nat_lt mode 2 || not (is_mode mode)

-- hold drops trajectory and previous command and sets the previous mode to off
abbrev pub hold : Decision
hold = record { answer = Hold; memory = empty_memory; prev_mode = 0 }

-- else a changed mode drops both
abbrev pub in_mode : Memory → ℕ → ℕ → Memory
in_mode m mode prev = if mode == prev then m else empty_memory

-- plan anew if none is held or the command changed
abbrev pub plans_anew : Memory → ManeuverCommand → Bool
plans_anew m cmd = is_none m.held || command_changed m.prev_cmd cmd

-- the seed is the held sample's state, else the estimate
abbrev pub seed_of : Option Sample → Vector6f → Vector6f
seed_of None estimate = estimate
seed_of (Some s) estimate = s.state

-- modes 2 and 3: no vision without active vision, otherwise a new plan or keep
abbrev pub maneuver_answer : Memory → Bool → ManeuverCommand → Vector6f → PlanAnswer
maneuver_answer m vision cmd estimate =
    if vision then (if plans_anew m cmd then NewPlan (seed_of m.held estimate) else Keep)
    else NoVision

unfoldable pub decided : ℕ → Bool → Bool → Bool → ManeuverCommand → Memory → ℕ → Vector6f → Decision
decided mode halt recovering vision cmd m prev estimate =
    if holds mode halt recovering then hold
    else record { answer = maneuver_answer (in_mode m mode prev) vision cmd estimate; memory = in_mode m mode prev; prev_mode = mode }

-- the number of plan's answer
abbrev pub number_decided : ℕ → Bool → Bool → Bool → ManeuverCommand → Memory → ℕ → ℕ
number_decided mode halt recovering vision cmd m prev =
    if holds mode halt recovering then 0
    else if vision then (if plans_anew (in_mode m mode prev) cmd then 3 else 2)
    else 1
