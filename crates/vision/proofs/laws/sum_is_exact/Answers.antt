-- The laws of the sum.
use Rattle.vision.proofs.Ticks.{sum_exact, sum_beyond}
use Rattle.vision.proofs.laws.sum_is_exact.Goals as goal

pub returns : goal.returns
returns c = record { exact = sum_exact; beyond = sum_beyond }
