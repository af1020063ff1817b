-- The turn: which of the tick's four calls is next (docs/RULES.md, 'Words').
use Rattle.std.specs.Prelude.{Bool, true, false, Option, Some, None}
use Rattle.body_controller.specs.declared.steer.Steered.{Steered}
use Rattle.control_context.specs.declared.context.Planned.{Planned}
use Rattle.body_controller.specs.declared.Turn.{Turn}
use Rattle.body_controller.specs.declared.Turn.TheVariants as Turns

-- it is sight's turn
abbrev pub is_sight : Turn → Bool
is_sight Turns.Sight = true
is_sight Turns.Plan = false
is_sight (Turns.Steer p) = false
is_sight (Turns.Finish s) = false

-- it is plan's turn
abbrev pub is_plan : Turn → Bool
is_plan Turns.Sight = false
is_plan Turns.Plan = true
is_plan (Turns.Steer p) = false
is_plan (Turns.Finish s) = false

-- at steer's turn, what plan left to it
abbrev pub planned_at : Turn → Option Planned
planned_at Turns.Sight = None
planned_at Turns.Plan = None
planned_at (Turns.Steer p) = Some p
planned_at (Turns.Finish s) = None

-- at finish's turn, what steer left to it
abbrev pub steered_at : Turn → Option Steered
steered_at Turns.Sight = None
steered_at Turns.Plan = None
steered_at (Turns.Steer p) = None
steered_at (Turns.Finish s) = Some s
