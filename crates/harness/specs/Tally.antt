-- What a list has shown.
use Rattle.std.specs.Prelude.{ℕ, ◌+◌, ◌%◌, ◌^◌, false}
use Rattle.harness.specs.declared.tally.Tally.{Tally}

-- nothing read yet
abbrev pub none_yet : Tally
none_yet = record { records = 0; mismatches = 0; cut_short = false }

-- some records more, with so many mismatches among them; both counts have 64 bits
abbrev pub counted : Tally → ℕ → ℕ → Tally
counted t n wrong = record t { records = (t.records + n) % 2 ^ 64; mismatches = (t.mismatches + wrong) % 2 ^ 64 }
