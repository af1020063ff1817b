-- The outcomes of the gate (docs/RULES.md, 'The gate'): quiet Q, gathered G, complete C, reseeded S, taken T, jump J, first refusal F, refused R.
use Rattle.std.specs.Prelude.{ℕ, Bool, true, false}
use Rattle.tick.specs.declared.action.GateAction.{GateAction}
use Rattle.tick.specs.declared.action.GateAction.TheVariants.{NoVision, Accumulate, SeedComplete, SeedReset, Accept, AcceptJump, FirstReject, Reject}

-- the letter, by its ASCII code
abbrev pub letter_of : GateAction → ℕ
letter_of NoVision = 81
letter_of Accumulate = 71
letter_of SeedComplete = 67
letter_of SeedReset = 83
letter_of Accept = 84
letter_of AcceptJump = 74
letter_of FirstReject = 70
letter_of Reject = 82

-- the place in the order Q to R
abbrev pub number_of : GateAction → ℕ
number_of NoVision = 0
number_of Accumulate = 1
number_of SeedComplete = 2
number_of SeedReset = 3
number_of Accept = 4
number_of AcceptJump = 5
number_of FirstReject = 6
number_of Reject = 7

-- C, T and J take the sighting
abbrev pub takes : GateAction → Bool
takes NoVision = false
takes Accumulate = false
takes SeedComplete = true
takes SeedReset = false
takes Accept = true
takes AcceptJump = true
takes FirstReject = false
takes Reject = false

-- C and J set pose and velocity, and drop trajectory, previous command and PID memory
abbrev pub overwrites : GateAction → Bool
overwrites NoVision = false
overwrites Accumulate = false
overwrites SeedComplete = true
overwrites SeedReset = false
overwrites Accept = false
overwrites AcceptJump = true
overwrites FirstReject = false
overwrites Reject = false
