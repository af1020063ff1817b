-- The last line of program `drive`, as bytes in ASCII (docs/RULES.md, 'The lines of drive').
use Rattle.std.specs.Prelude.{ℕ, List, ◌++◌}
use Rattle.tick.specs.declared.tally.Totals.{Totals}
use Rattle.line_text.specs.Pieces.{decimal, field, newline}

-- last, always: ticks, then counts in the order Q to R
abbrev pub totals_text : Totals → List ℕ
totals_text t =
    decimal t.ticks
    ++ field (decimal t.counts.quiet)
    ++ field (decimal t.counts.gathered)
    ++ field (decimal t.counts.complete)
    ++ field (decimal t.counts.reseeded)
    ++ field (decimal t.counts.taken)
    ++ field (decimal t.counts.jump)
    ++ field (decimal t.counts.first)
    ++ field (decimal t.counts.refused)
    ++ newline
