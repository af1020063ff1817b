-- A run of bytes, driven block by block (docs/RULES.md, 'Every batch').
use Rattle.std.specs.Prelude.{ℕ, zero, suc, ◌/◌, Bool, true, false, if◌then◌else◌, List, [], ◌∷◌, ◌++◌, length, take, drop}
use Rattle.line_text.specs.declared.line.Line.{Line}
use Rattle.line_text.specs.declared.line.Line.TheVariants.{Tick, Refused}
use Rattle.line_text.specs.Text.{line_text}
use Rattle.pass.specs.declared.pass.Pass.{Pass}
use Rattle.pass.specs.Pass.{driven}
use Rattle.pass.specs.declared.batch.Written.{Written}

-- a refused block's line
abbrev pub is_refused : Line → Bool
is_refused (Tick t) = false
is_refused (Refused r) = true

-- how long a line's text is, and whether its block was refused
abbrev pub written : Line → Written
written line = record { len = length (line_text line); refused = is_refused line }

-- the first block of the bytes, shorter than 512 where they are, and what stands behind it
abbrev pub first_block : List ℕ → List ℕ
first_block bytes = take 512 bytes

abbrev pub behind_first : List ℕ → List ℕ
behind_first bytes = drop 512 bytes

-- the blocks that were driven and their lines, in order, the pass after them, and whether a refusal ended the reading
pub record Batched : Type 0 where
  pub blocks : List (List ℕ)
  pub lines : List Line
  pub pass : Pass
  pub over : Bool

abbrev pub nothing : Pass → Batched
nothing p = record { blocks = []; lines = []; pass = p; over = false }

abbrev pub one_block : Pass → List ℕ → Batched
one_block p block = let d = driven p block in record { blocks = block ∷ []; lines = d.line ∷ []; pass = d.pass; over = is_refused d.line }

-- a refused block ends the reading: what follows counts only where none was refused
abbrev pub followed_by : Batched → Batched → Batched
followed_by t rest = if t.over then t else record rest { blocks = t.blocks ++ rest.blocks; lines = t.lines ++ rest.lines }

-- up to n blocks of the bytes
unfoldable pub batch_of : ℕ → Pass → List ℕ → Batched
batch_of zero p bytes = nothing p
batch_of (suc n) p [] = nothing p
batch_of (suc n) p (b ∷ bytes) =
    let first = one_block p (first_block (b ∷ bytes)) in
    followed_by first (batch_of n first.pass (behind_first (b ∷ bytes)))

-- all of the bytes: there are no more blocks than bytes
abbrev pub whole_of : Pass → List ℕ → Batched
whole_of p bytes = batch_of (length bytes) p bytes

-- the text of lines one behind the other
unfoldable pub text_of : List Line → List ℕ
text_of [] = []
text_of (line ∷ lines) = line_text line ++ text_of lines

-- ---- `drive_batch`

-- as many blocks as `out` has room for, at 128 bytes a line
abbrev pub batch_into : List ℕ → Pass → List ℕ → Batched
batch_into out p bytes = batch_of (length out / 128) p bytes

-- the length of the text, and whether a refusal ended the reading
abbrev pub answer_of : Batched → Written
answer_of t = record { len = length (text_of t.lines); refused = t.over }
