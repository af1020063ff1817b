-- A whole run: what is written of what is read (docs/RULES.md, 'A whole run').
use Rattle.std.specs.Prelude.{ℕ, ◌*◌, ◌≤◌, ◌<◌, ◌≡◌, List, ◌++◌, length, Option, Some}
use Rattle.std.specs.Io.{StartsWith}
use Rattle.std.specs.Io.KnownBytes.{Appends, Consumes}
use Rattle.line_text.specs.Totals.{totals_text}
use Rattle.pass.specs.declared.pass.Pass.TheVariants.{Empty}
use Rattle.pass.specs.Pass.{totals_of}
use Rattle.pass.specs.Batch.{whole_of, text_of}

-- the lines of the input's blocks, up to the first refusal
abbrev pub blocks_text : List ℕ → List ℕ
blocks_text input = text_of (whole_of Empty input).lines

-- and then the last line
abbrev pub run_text : List ℕ → List ℕ
run_text input = blocks_text input ++ totals_text (totals_of (whole_of Empty input).pass)

-- a run that a failed read or write ended: what the reader lost and has left, and what the writer got
pub record BreaksOff (input : List ℕ) (left old new : Option (List ℕ)) : Type 0 where
  -- the bytes of the batches before the last one, each of 65,536, and of the last one
  pub earlier : List ℕ
  pub batches : ℕ
  pub whole : length earlier ≡ batches * 65536
  pub last : List ℕ
  pub taken : Consumes (Some input) left (earlier ++ last)
  pub few : length last ≤ 65536
  -- a beginning of the text, never all of it, and at least the lines of the earlier batches
  pub text : List ℕ
  pub wrote : Appends old new text
  pub beginning : StartsWith (run_text input) text
  pub not_all : length text < length (run_text input)
  pub at_least : StartsWith text (blocks_text earlier)
