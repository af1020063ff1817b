-- The flags of a block.
use Rattle.std.specs.Prelude.{ℕ, ◌/◌, ◌%◌, ◌^◌, Bool, List, ◌==◌}
use Rattle.tick_block.specs.Words.{word_at}
use Rattle.tick_block.specs.Layout as at
use Rattle.tick_block.specs.declared.flags.Flag.{Flag}
use Rattle.tick_block.specs.declared.flags.Flag.TheVariants as F

-- bit i of the flags' word
abbrev pub flag_at : List ℕ → ℕ → Bool
flag_at s i = word_at s at.flags / 2 ^ i % 2 == 1

abbrev pub bit_of : Flag → ℕ
bit_of F.Seen = 0
bit_of F.Halt = 1
bit_of F.Stop = 2
bit_of F.EstimatorFailed = 3
bit_of F.PlannerFailed = 4

abbrev pub seen : List ℕ → Bool
seen s = flag_at s (bit_of F.Seen)

abbrev pub halt : List ℕ → Bool
halt s = flag_at s (bit_of F.Halt)

abbrev pub stop : List ℕ → Bool
stop s = flag_at s (bit_of F.Stop)

abbrev pub estimator_failed : List ℕ → Bool
estimator_failed s = flag_at s (bit_of F.EstimatorFailed)

abbrev pub planner_failed : List ℕ → Bool
planner_failed s = flag_at s (bit_of F.PlannerFailed)
