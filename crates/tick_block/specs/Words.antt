-- The words of a block of bytes.
use Rattle.std.specs.Prelude.{ℕ, ◌+◌, ◌*◌, ◌/◌, if◌then◌else◌, List, nat_lt, length, slice_index_or}
use Rattle.std.specs.Int.{to_le_bytes, w32}
use Rattle.std.specs.List.{splice}

-- the 32 bits that start at a byte, lowest byte first
abbrev pub word_from : List ℕ → ℕ → ℕ
word_from s at =
    slice_index_or s at 0
    + slice_index_or s (at + 1) 0 * 0x100
    + slice_index_or s (at + 2) 0 * 0x1_0000
    + slice_index_or s (at + 3) 0 * 0x100_0000

-- word i, and 0 past the last whole word
unfoldable pub word_at : List ℕ → ℕ → ℕ
word_at s i = if nat_lt i (length s / 4) then word_from s (i * 4) else 0

-- the bytes with another word i, where there is one
unfoldable pub with_word : List ℕ → ℕ → ℕ → List ℕ
with_word s i word = if nat_lt i (length s / 4) then splice s (i * 4) (i * 4 + 4) (to_le_bytes w32 word) else s
