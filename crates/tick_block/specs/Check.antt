-- The check of a tick block, and what must be zero (docs/RULES.md, 'The check').
use Rattle.std.specs.Prelude.{ℕ, zero, suc, ◌+◌, ◌%◌, ◌^◌, Bool, true, ◌&&◌, List, ◌==◌, nat_lt}
use Rattle.tick_block.specs.Words.{word_at, with_word}
use Rattle.tick_block.specs.Layout as at

-- the sum of the first n words
unfoldable pub word_sum : List ℕ → ℕ → ℕ
word_sum s zero = 0
word_sum s (suc n) = word_sum s n + word_at s n

-- 1 plus the words before the check, modulo 2^32
unfoldable pub check_of : List ℕ → ℕ
check_of s = (1 + word_sum s at.check) % 2 ^ 32

-- the bytes with the check that fits them
unfoldable pub with_check : List ℕ → List ℕ
with_check s = with_word s at.check (check_of s)

-- the first n spare words are zero
unfoldable pub are_zero : List ℕ → ℕ → Bool
are_zero s zero = true
are_zero s (suc n) = are_zero s n && word_at s (at.spare + n) == 0

-- the flags are below 32, and every spare word is zero
unfoldable pub is_spare_zero : List ℕ → Bool
is_spare_zero s = nat_lt (word_at s at.flags) 32 && are_zero s at.spares
