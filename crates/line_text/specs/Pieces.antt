-- The pieces of a line, as bytes in ASCII.
use Rattle.std.specs.Prelude.{ℕ, zero, suc, ◌+◌, ◌/◌, ◌%◌, if◌then◌else◌, List, [], ◌∷◌, ◌++◌, nat_lt}

-- a number in decimal, in at most k digits
unfoldable pub decimal_in : ℕ → ℕ → List ℕ
decimal_in zero n = []
decimal_in (suc k) n = if nat_lt n 10 then (48 + n) ∷ [] else decimal_in k (n / 10) ++ ((48 + n % 10) ∷ [])

-- a 32-bit number in decimal
unfoldable pub decimal : ℕ → List ℕ
decimal n = decimal_in 10 n

-- a field and the space before it
abbrev pub field : List ℕ → List ℕ
field text = 32 ∷ text

-- the end of every line
abbrev pub newline : List ℕ
newline = 10 ∷ []
