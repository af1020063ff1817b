-- The number of a block's answer is that of the first refusal that applies.
use Prim.Native.Nat.{ℕ}
use mathlib.Core.Path.{◌≡◌, refl, ◌∙◌}
use mathlib.Core.Bool.{Bool, true, false, cond, not}
use mathlib.Core.List.{List}
use Rattle.std.specs.Prelude.{Result, Ok, Err}
use Rattle.std.specs.Result.{result_map_both}
use Rattle.tick.specs.declared.refusal.Refusal.{Refusal}
use Rattle.tick.specs.declared.refusal.Refusal.TheVariants as Why
use Rattle.tick.specs.Refusal.{refusal_number, number_of}
use Rattle.tick_block.specs.Check.{is_spare_zero}
use Rattle.tick_block.specs.Tests.{is_whole, checks, is_version, has_tick_length, has_mode, tested, block_tested}
use Rattle.tick_block.specs.Block.{tick_block, block_read, block_refusal}

-- the number of what the tests show is the answer's
answered : (t : Result ℕ Refusal) (s : List ℕ) → number_of (result_map_both (tick_block s) (λ (r : Refusal). r) t) ≡ number_of t
answered (Ok t) s = refl
answered (Err r) s = refl

-- one test more in front
after : (b : Bool) (x : Result ℕ Refusal) (n : ℕ) (r : Refusal) → number_of x ≡ n → number_of (tested b r x) ≡ cond (not b) (refusal_number r) n
after true x n r h = h
after false x n r h = refl

pub numbered : (s : List ℕ) → number_of (block_read s) ≡ block_refusal s
unfolding block_read block_tested block_refusal
numbered s =
    answered (block_tested s) s
    ∙ after (is_whole s) _ _ Why.Length
    (after (checks s) _ _ Why.Check
    (after (is_version s) _ _ Why.Version
    (after (is_spare_zero s) _ _ Why.Spare
    (after (has_tick_length s) _ _ Why.TickLength
    (after (has_mode s) _ 0 Why.Mode refl)))))
