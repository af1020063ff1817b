-- What it is to put a text into an array.
use Rattle.std.specs.Prelude.{ℕ, ◌+◌, ◌≤◌, ◌≡◌, List, ◌++◌, length, take, drop}

-- n bytes at the start of xs, in the words of what `&buf[..n]` asks
abbrev pub Within : ℕ → List ℕ → Type 0
Within n xs = (n ≤ length xs) × (n ≡ length (take n xs))

-- a text is put behind the first `at` bytes, and ends at `end`; what stands before and behind it stays
pub record Puts (before : List ℕ) (at : ℕ) (text after : List ℕ) (end : ℕ) : Type 0 where
  pub long : end ≡ at + length text
  pub front : take end after ≡ take at before ++ text
  pub behind : drop end after ≡ drop end before
