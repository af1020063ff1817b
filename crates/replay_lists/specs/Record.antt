-- Records of a block of bytes: an argument and the answer wanted, a word each.
use Rattle.std.specs.Prelude.{ℕ, ◌+◌, ◌*◌, ◌/◌, Bool, not, List, length, map, ◌==◌, Float}
use Rattle.std.specs.List.{range_with_len}
use Rattle.tick_block.specs.Words.{word_at}
use Rattle.replay_lists.specs.declared.floats.record.Record.{Record}
use Rattle.replay_lists.specs.Answer.{answer_of}

abbrev pub record_at : List ℕ → ℕ → Record
record_at s i = record { argument = word_at s (i * 2); wanted = word_at s (i * 2 + 1) }

-- the block's whole records
abbrev pub records_of : List ℕ → List Record
records_of s = map (record_at s) (range_with_len 0 (length s / 8))

-- whether the answer to its argument is another than the one wanted
abbrev pub is_mismatch : (Float → Float) → Record → Bool
is_mismatch value r = not (answer_of value r.argument == r.wanted)
