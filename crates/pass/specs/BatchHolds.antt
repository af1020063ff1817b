-- The pass theorem, of batches. Proved in proofs/BatchHolds.antt.
use Rattle.std.specs.Prelude.{ℕ, List, reverse}
use Rattle.pass.specs.declared.pass.Pass.{Pass}
use Rattle.pass.specs.declared.pass.Pass.TheVariants.{Empty}
use Rattle.pass.specs.PlainPass.{PassHolds}
use Rattle.pass.specs.Batch.{Batched, batch_of}

-- the pass theorem, which takes the latest block first, holds of the blocks and lines of a batch, and of this pass behind them
abbrev pub PassHoldsOf : Batched → Pass → Type 0
PassHoldsOf t q = PassHolds (reverse t.blocks) (reverse t.lines) q

-- and so it does of every batch that begins a pass
abbrev pub BatchHolds : Type 0
BatchHolds = (n : ℕ) (bytes : List ℕ) → PassHoldsOf (batch_of n Empty bytes) (batch_of n Empty bytes).pass
