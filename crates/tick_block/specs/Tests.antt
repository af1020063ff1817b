-- The tests that bytes pass before they are read as a tick block (docs/RULES.md, 'The order of trial').
use Rattle.std.specs.Prelude.{ℕ, Bool, if◌then◌else◌, List, ◌==◌, length, Result, Ok, Err}
use Rattle.tick.specs.declared.refusal.Refusal.{Refusal}
use Rattle.tick.specs.declared.refusal.Refusal.TheVariants as Why
use Rattle.tick.specs.TickLength.{is_tick_length}
use Rattle.tick.specs.Mode.{is_mode}
use Rattle.tick_block.specs.Words.{word_at}
use Rattle.tick_block.specs.Layout as at
use Rattle.tick_block.specs.Check.{check_of, is_spare_zero}

-- ---- what is tested

abbrev pub is_whole : List ℕ → Bool
is_whole s = length s == at.block_bytes

abbrev pub checks : List ℕ → Bool
checks s = word_at s at.check == check_of s

abbrev pub is_version : List ℕ → Bool
is_version s = word_at s at.version == 1

abbrev pub has_tick_length : List ℕ → Bool
has_tick_length s = is_tick_length (word_at s at.tick_length)

abbrev pub has_mode : List ℕ → Bool
has_mode s = is_mode (word_at s at.mode)

-- ---- the tests, in their order

-- one test before an answer
abbrev pub tested : Bool → Refusal → Result ℕ Refusal → Result ℕ Refusal
tested holds refusal answer = if holds then answer else Err refusal

-- the tick length of a block that passes every test, or the first refusal that applies
unfoldable pub block_tested : List ℕ → Result ℕ Refusal
block_tested s =
    tested (is_whole s) Why.Length
    (tested (checks s) Why.Check
    (tested (is_version s) Why.Version
    (tested (is_spare_zero s) Why.Spare
    (tested (has_tick_length s) Why.TickLength
    (tested (has_mode s) Why.Mode (Ok (word_at s at.tick_length)))))))
