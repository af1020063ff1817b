-- The laws of the remainder, with what they are about spelled out.
use Rattle.ieee754.proofs.RemainderLaws.{remainder_exact, remainder_small, remainder_even, remainder_zero_sign}
use Rattle.ieee754.proofs.laws.remainder_is_exact.Goals as goal

pub returns : goal.returns
returns c = record {
  exact = λ f x y s t a b d g. remainder_exact g;
  small = λ f x y s t a b d g. remainder_small g;
  even = λ f x y s t a b d g. remainder_even g;
  zero_sign = λ f x y s t a b d g. remainder_zero_sign g;
}
