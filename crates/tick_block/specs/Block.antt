-- A tick block, and why bytes are refused as one (docs/RULES.md, 'The order of trial').
use Rattle.std.specs.Prelude.{ℕ, if◌then◌else◌, not, List, Result}
use Rattle.std.specs.Result.{result_map_both}
use Rattle.tick.specs.declared.refusal.Refusal.{Refusal}
use Rattle.tick_block.specs.declared.TickBlock.{TickBlock}
use Rattle.tick_block.specs.Words.{word_at}
use Rattle.tick_block.specs.Layout as at
use Rattle.tick_block.specs.Check.{is_spare_zero}
use Rattle.tick_block.specs.Tests.{is_whole, checks, is_version, has_tick_length, has_mode, block_tested}
use Rattle.tick_block.specs.Inputs.{tick_input}

-- what an accepted block says
unfoldable pub tick_block : List ℕ → ℕ → TickBlock
tick_block s tick_length = record { number = word_at s at.number; tick_length = tick_length; inputs = tick_input s }

-- what it says where it passes the tests, and else why it is refused
unfoldable pub block_read : List ℕ → Result TickBlock Refusal
block_read s = result_map_both (tick_block s) (λ r. r) (block_tested s)

-- the number of the first refusal that applies, 0 where none does
unfoldable pub block_refusal : List ℕ → ℕ
block_refusal s =
    if not (is_whole s) then 5
    else (if not (checks s) then 6
    else (if not (is_version s) then 7
    else (if not (is_spare_zero s) then 8
    else (if not (has_tick_length s) then 1
    else (if not (has_mode s) then 4
    else 0)))))
