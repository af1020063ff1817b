-- What a controller counts: its ticks, and how often each outcome of the gate came.
use Rattle.std.specs.Prelude.{ℕ, ◌+◌, ◌≤◌, ◌≡◌, Bool, not, nat_lt, List, [], ◌∷◌, sum}
use Rattle.tick.specs.declared.action.GateAction.{GateAction}
use Rattle.tick.specs.declared.action.GateAction.TheVariants.{NoVision, Accumulate, SeedComplete, SeedReset, Accept, AcceptJump, FirstReject, Reject}
use Rattle.tick.specs.declared.tally.Counts.{Counts}
use Rattle.tick.specs.declared.tally.Totals.{Totals}

-- nothing counted
abbrev pub no_counts : Counts
no_counts = record { quiet = 0; gathered = 0; complete = 0; reseeded = 0; taken = 0; jump = 0; first = 0; refused = 0 }

abbrev pub no_totals : Totals
no_totals = record { ticks = 0; counts = no_counts }

-- the counts in the order of the outcomes
abbrev pub count_list : Counts → List ℕ
count_list n = n.quiet ∷ n.gathered ∷ n.complete ∷ n.reseeded ∷ n.taken ∷ n.jump ∷ n.first ∷ n.refused ∷ []

-- one more of an outcome
abbrev pub counts_with : Counts → GateAction → Counts
counts_with n NoVision = record n { quiet = n.quiet + 1 }
counts_with n Accumulate = record n { gathered = n.gathered + 1 }
counts_with n SeedComplete = record n { complete = n.complete + 1 }
counts_with n SeedReset = record n { reseeded = n.reseeded + 1 }
counts_with n Accept = record n { taken = n.taken + 1 }
counts_with n AcceptJump = record n { jump = n.jump + 1 }
counts_with n FirstReject = record n { first = n.first + 1 }
counts_with n Reject = record n { refused = n.refused + 1 }

-- one tick more, with its outcome
abbrev pub counted : Totals → GateAction → Totals
counted t a = record { ticks = t.ticks + 1; counts = counts_with t.counts a }

-- 2^24
abbrev pub tick_limit : ℕ
tick_limit = 16777216

-- the limit is reached
abbrev pub is_full : Totals → Bool
is_full t = not (nat_lt t.ticks tick_limit)

-- what every Tally is by its type
abbrev pub IsTally : Totals → Type 0
IsTally t = (t.ticks ≤ tick_limit) × (sum (count_list t.counts) ≡ t.ticks)
