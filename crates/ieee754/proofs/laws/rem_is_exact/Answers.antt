-- The law of `%`, with what it is about spelled out.
use Rattle.ieee754.proofs.RemainderLaws.{rem_exact}
use Rattle.ieee754.proofs.laws.rem_is_exact.Goals as goal

pub returns : goal.returns
returns c = record { exact = λ f x y s t a b d g. rem_exact g }
