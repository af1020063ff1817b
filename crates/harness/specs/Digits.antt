-- A number in decimal, as bytes in ASCII.
use Rattle.std.specs.Prelude.{ℕ, zero, suc, ◌+◌, ◌-◌, ◌/◌, ◌%◌, ◌^◌, ◌≤◌, ◌<◌, ◌≡◌, List, [], ◌∷◌, ◌++◌}

-- the last k digits of n
abbrev pub last_digits : ℕ → ℕ → List ℕ
last_digits zero n = []
last_digits (suc k) n = last_digits k (n / 10) ++ ((48 + n % 10) ∷ [])

-- n takes k digits: at least one, and no more than it needs
abbrev pub IsDigitCount : ℕ → ℕ → Type 0
IsDigitCount n k = (1 ≤ k) × (n < 10 ^ k) × (1 < k → 10 ^ (k - 1) ≤ n)

-- a number in decimal, in no more digits than it needs
pub record IsDecimal (n : ℕ) (text : List ℕ) : Type 0 where
  pub count : ℕ
  pub fewest : IsDigitCount n count
  pub is : text ≡ last_digits count n
