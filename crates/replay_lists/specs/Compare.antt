-- The words of an answer against the words wanted.
use Rattle.std.specs.Prelude.{ℕ, zero, suc, ◌+◌, ◌==◌, Bool, true, ◌&&◌, List, slice_index}
use Rattle.tick_block.specs.Words.{word_at}

-- whether the first n words are those of the call from `at` on
unfoldable pub agrees_up_to : List ℕ → List ℕ → ℕ → ℕ → Bool
agrees_up_to words s at zero = true
agrees_up_to words s at (suc n) = agrees_up_to words s at n && slice_index words n == word_at s (at + n)
