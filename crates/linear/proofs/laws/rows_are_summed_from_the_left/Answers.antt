-- The laws of sums of products.
use Rattle.linear.proofs.VectorLaws.{dot_of_three, dot_of_four}
use Rattle.linear.proofs.rotation.Laws.{infinite_third}
use Rattle.linear.proofs.laws.rows_are_summed_from_the_left.Goals as goal

pub returns : goal.returns
returns c = record { three = dot_of_three; four = dot_of_four; zeros = infinite_third }
