-- No word lies past the last number.
use Rattle.std.proofs.Common.{◌≡◌, ℕ, ◌^◌, ◌<◌, min, List, length, arith}
use Rattle.tick_block.specs.Words.{word_at}
use Rattle.tick_block.specs.Floats.{float_at}

pub held : (s : List ℕ) (i : ℕ) → length s < 2 ^ 64 → float_at s (min i 18446744073709551615) ≡ float_at s i
unfolding float_at word_at
held s i short = grind arith
