-- A pass, and what a block makes of it (docs/RULES.md, 'The order of trial' and 'The lines of drive').
use Rattle.std.specs.Prelude.{ℕ, if◌then◌else◌, ◌==◌, List, Result, Ok, Err}
use Rattle.std.specs.Result.{result_and}
use Rattle.tick.specs.declared.refusal.Refusal.{Refusal}
use Rattle.tick.specs.declared.refusal.Refusal.TheVariants as Why
use Rattle.tick.specs.declared.tally.Totals.{Totals}
use Rattle.tick.specs.Tally.{no_totals}
use Rattle.tick_block.specs.declared.TickBlock.{TickBlock}
use Rattle.tick_block.specs.Block.{block_read}
use Rattle.tick_block.specs.Order.{order_tested}
use Rattle.body_controller.specs.declared.BodyController.{BodyController}
use Rattle.body_controller.specs.Controller.{started}
use Rattle.line_text.specs.declared.line.Line.{Line}
use Rattle.line_text.specs.declared.line.Line.TheVariants as Lines
use Rattle.pass.specs.declared.pass.Pass.{Pass}
use Rattle.pass.specs.declared.pass.Pass.TheVariants.{Empty, Driving}
use Rattle.pass.specs.Tick.{Ticked, ticked}

-- the ticks so far, and the outcomes of them
abbrev pub totals_of : Pass → Totals
totals_of Empty = no_totals
totals_of (Driving c) = c.tally

-- the number that the next tick has, or would have
abbrev pub next_number : Pass → ℕ
next_number p = (totals_of p).ticks

-- a block's line, and the pass as the block leaves it
pub record Driven : Type 0 where
  pub line : Line
  pub pass : Pass

-- the controller that is to drive a block: the first block's number must be 0, and its tick length makes the controller; a later block's tick length
-- is to be the controller's, and then its number the next
abbrev pub driver_of : Pass → TickBlock → Result BodyController Refusal
driver_of Empty b = if b.number == 0 then Ok (started (record { tick_length = b.tick_length })) else Err Why.Order
driver_of (Driving c) b = result_and (order_tested b.tick_length c.context.start.tick_length b.number c.tally.ticks) (Ok c)

-- what a block that was read makes of its controller
abbrev pub ticked_by : Result BodyController Refusal → TickBlock → Result Ticked Refusal
ticked_by (Ok c) b = ticked c b.inputs
ticked_by (Err r) b = Err r

abbrev pub taken_with : Result TickBlock Refusal → Pass → Result Ticked Refusal
taken_with (Ok b) p = ticked_by (driver_of p b) b
taken_with (Err r) p = Err r

-- the tick of an accepted block, or why the block is refused
abbrev pub taken : Pass → List ℕ → Result Ticked Refusal
taken p bytes = taken_with (block_read bytes) p

-- a refused block: the number that its tick would have had, and the refusal; the pass stays
abbrev pub refused_by : Refusal → Pass → Driven
refused_by r p = record { line = Lines.Refused (record { number = next_number p; refusal = r }); pass = p }

abbrev pub driven_with : Result Ticked Refusal → Pass → Driven
driven_with (Ok t) p = record { line = Lines.Tick t.line; pass = Driving t.controller }
driven_with (Err r) p = refused_by r p

-- a block's line and the next pass
abbrev pub driven : Pass → List ℕ → Driven
driven p bytes = driven_with (taken p bytes) p
