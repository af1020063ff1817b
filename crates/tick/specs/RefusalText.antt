-- What a refusal says in print.
use Rattle.std.specs.Prelude.{ℕ, List, codes}
use Rattle.tick.specs.declared.refusal.Refusal.{Refusal}
use Rattle.tick.specs.declared.refusal.Refusal.TheVariants as Why

-- the bytes that are printed
abbrev pub sentence_of : Refusal → List ℕ
sentence_of Why.TickLength = codes "the tick length is not from 1 to 64"
sentence_of Why.OutOfTurn = codes "the call is out of turn"
sentence_of Why.TickLimit = codes "the controller has had 16777216 ticks, its limit"
sentence_of Why.Mode = codes "the mode is not from 0 to 3"
sentence_of Why.Length = codes "the block is not 512 bytes long"
sentence_of Why.Check = codes "the block's check does not match its words"
sentence_of Why.Version = codes "the block's version is not 1"
sentence_of Why.Spare = codes "the block's flags are not below 32, or a spare word is not zero"
sentence_of Why.OtherTickLength = codes "the block's tick length is not its pass's"
sentence_of Why.Order = codes "the block's tick number is not the next"
sentence_of Why.EstimatorFailed = codes "the estimator failed"
sentence_of Why.PlannerFailed = codes "the planner failed"
