-- The numbers of the refusals (docs/RULES.md, 'Refusals').
use Rattle.std.specs.Prelude.{ℕ, Result, Ok, Err}
use Rattle.tick.specs.declared.refusal.Refusal.{Refusal}
use Rattle.tick.specs.declared.refusal.Refusal.TheVariants as Why

abbrev pub refusal_number : Refusal → ℕ
refusal_number Why.TickLength = 1
refusal_number Why.OutOfTurn = 2
refusal_number Why.TickLimit = 3
refusal_number Why.Mode = 4
refusal_number Why.Length = 5
refusal_number Why.Check = 6
refusal_number Why.Version = 7
refusal_number Why.Spare = 8
refusal_number Why.OtherTickLength = 9
refusal_number Why.Order = 10
refusal_number Why.EstimatorFailed = 11
refusal_number Why.PlannerFailed = 12

-- an answer's number: its refusal's, or 0 where it is none
abbrev pub number_of : {A : Type 0} → Result A Refusal → ℕ
number_of (Ok a) = 0
number_of (Err r) = refusal_number r
