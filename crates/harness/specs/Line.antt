-- A list's line behind its name, as bytes in ASCII: how many records and mismatches, and whether its last record is cut short.
use Rattle.std.specs.Prelude.{ℕ, ◌≡◌, Bool, if◌then◌else◌, List, [], ◌∷◌, ◌++◌, decimal}
use Rattle.harness.specs.Digits.{IsDecimal}
use Rattle.harness.specs.declared.tally.Tally.{Tally}

-- ` `
abbrev pub space : List ℕ
space = 32 ∷ []

-- ` mismatches `
abbrev pub mismatches_word : List ℕ
mismatches_word = 32 ∷ 109 ∷ 105 ∷ 115 ∷ 109 ∷ 97 ∷ 116 ∷ 99 ∷ 104 ∷ 101 ∷ 115 ∷ 32 ∷ []

-- ` and a record cut short`, or nothing
abbrev pub ending : Bool → List ℕ
ending cut =
    if cut then 32 ∷ 97 ∷ 110 ∷ 100 ∷ 32 ∷ 97 ∷ 32 ∷ 114 ∷ 101 ∷ 99 ∷ 111 ∷ 114 ∷ 100 ∷ 32 ∷ 99 ∷ 117 ∷ 116 ∷ 32 ∷ 115 ∷ 104 ∷ 111 ∷ 114 ∷ 116 ∷ [] else []

-- the line, its numbers as `{}` writes them, and a newline
unfoldable pub line_text : Tally → List ℕ
line_text t = space ++ decimal t.records ++ mismatches_word ++ decimal t.mismatches ++ ending t.cut_short ++ (10 ∷ [])

-- the same by the digits alone: each number in no more of them than it needs
pub record IsLine (t : Tally) (text : List ℕ) : Type 0 where
  pub first : List ℕ
  pub second : List ℕ
  pub records : IsDecimal t.records first
  pub mismatches : IsDecimal t.mismatches second
  pub is : text ≡ space ++ first ++ mismatches_word ++ second ++ ending t.cut_short ++ (10 ∷ [])
