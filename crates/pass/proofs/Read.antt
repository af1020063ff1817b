-- The tick length of a block that was read is one.
use mathlib.Core.Path.{◌≡◌, refl}
use Prim.Native.Nat.{ℕ}
use mathlib.Core.Bool.{Bool, true, false}
use mathlib.Core.List.{List}
use Rattle.std.specs.Prelude.{Ok}
use Rattle.std.specs.Result.{result_map_both}
use Rattle.tick.specs.declared.refusal.Refusal.TheVariants as Why
use Rattle.tick.specs.TickLength.{IsTickLength}
use Rattle.tick.proofs.TickLengthExact.{tick_length_bounds}
use Rattle.tick_block.specs.declared.TickBlock.{TickBlock}
use Rattle.tick_block.specs.Words.{word_at}
use Rattle.tick_block.specs.Layout as place
use Rattle.tick_block.specs.Check.{is_spare_zero}
use Rattle.tick_block.specs.Tests.{is_whole, checks, is_version, has_tick_length, has_mode, tested, block_tested}
use Rattle.tick_block.specs.Block.{tick_block, block_read}

pub valid_read : (bytes : List ℕ) (b : TickBlock) → block_read bytes ≡ Ok b → IsTickLength b.tick_length
unfolding block_read block_tested tick_block
valid_read bytes b = go (is_whole bytes) (checks bytes) (is_version bytes) (is_spare_zero bytes) (has_tick_length bytes) (has_mode bytes) refl
  where
    k : ℕ
    k = word_at bytes place.tick_length

    go : (whole check version spare length mode : Bool) → has_tick_length bytes ≡ length
        → result_map_both (tick_block bytes) (λ r. r)
        (tested whole Why.Length (tested check Why.Check (tested version Why.Version (tested spare Why.Spare (tested length Why.TickLength (tested mode Why.Mode (Ok (word_at bytes place.tick_length))))))))
        ≡ Ok b
        → IsTickLength b.tick_length
    go true true true true true true t e = let same : tick_block bytes (word_at bytes place.tick_length) ≡ b = cc in rw (← same) (tick_length_bounds (word_at bytes place.tick_length) t)
    go true true true true true false t e = cc
    go true true true true false mode t e = cc
    go true true true false length mode t e = cc
    go true true false spare length mode t e = cc
    go true false version spare length mode t e = cc
    go false check version spare length mode t e = cc
