-- What is shown of batches: driven one after the other they are one run over all the bytes, and no byte is passed over. Proved in
-- proofs/Batches.antt.
use Rattle.std.specs.Prelude.{ℕ, ◌*◌, ◌≤◌, ◌≡◌, false, length, List, ◌++◌}
use mathlib.Core.List.{flatten}
use Rattle.pass.specs.declared.pass.Pass.{Pass}
use Rattle.pass.specs.Batch.{followed_by, batch_of, whole_of, text_of}

-- a batch with room for all of the bytes' blocks drives all of them
abbrev pub RoomIsEnough : Type 0
RoomIsEnough = (n : ℕ) (p : Pass) (bytes : List ℕ) → length bytes ≤ n * 512 → batch_of n p bytes ≡ whole_of p bytes

-- whole blocks, and then the bytes behind them, are driven as all of them at once
abbrev pub BatchesJoin : Type 0
BatchesJoin = (n : ℕ) (p : Pass) (a b : List ℕ) → length a ≡ n * 512 → followed_by (whole_of p a) (whole_of (whole_of p a).pass b) ≡ whole_of p (a ++ b)

-- and so is their text
abbrev pub TextsJoin : Type 0
TextsJoin =
    (n : ℕ) (p : Pass) (a b : List ℕ) → length a ≡ n * 512 → (whole_of p a).over ≡ false
    → text_of (whole_of p a).lines ++ text_of (whole_of (whole_of p a).pass b).lines ≡ text_of (whole_of p (a ++ b)).lines

-- where none was refused, the blocks that were driven, one behind the other, are all of the bytes
abbrev pub NoByteLost : Type 0
NoByteLost = (p : Pass) (bytes : List ℕ) → (whole_of p bytes).over ≡ false → flatten (whole_of p bytes).blocks ≡ bytes
