-- The pass theorem holds of the blocks and lines of every batch that begins a pass.
use Prim.Native.Nat.{ℕ, zero, suc, ◌/◌}
use mathlib.Core.Path.{◌≡◌, refl}
use mathlib.Core.Bool.{Bool, true, false}
use Rattle.std.specs.Prelude.{if◌then◌else◌}
use mathlib.Core.List.{List, [], ◌∷◌, reverse_aux}
use lib.ListN.{length}
use Rattle.line_text.specs.declared.line.Line.{Line}
use Rattle.pass.specs.declared.pass.Pass.{Pass}
use Rattle.pass.specs.declared.pass.Pass.TheVariants.{Empty}
use Rattle.pass.specs.Pass.{driven}
use Rattle.pass.specs.PlainPass.{Passed}
use Rattle.pass.proofs.EveryPass.{every_pass}
use Rattle.pass.specs.Batch.{is_refused}
use Rattle.pass.specs.Batch.{first_block, behind_first, Batched, one_block, followed_by, batch_of, batch_into}
use Rattle.pass.specs.BatchHolds.{PassHoldsOf, BatchHolds}

-- a block and what follows it, where it was refused and where not
passed_on : (p : Pass) (block : List ℕ) (rest : Batched) (bs : List (List ℕ)) (ls : List Line) → Passed bs ls p
    → (Passed (block ∷ bs) ((driven p block).line ∷ ls) (driven p block).pass
    → Passed (reverse_aux rest.blocks (block ∷ bs)) (reverse_aux rest.lines ((driven p block).line ∷ ls)) rest.pass)
    → Passed (reverse_aux (followed_by (one_block p block) rest).blocks bs) (reverse_aux (followed_by (one_block p block) rest).lines ls) (followed_by (one_block p block) rest).pass
passed_on p block rest bs ls m k = go (is_refused (driven p block).line)
  where
    first : Passed (block ∷ bs) ((driven p block).line ∷ ls) (driven p block).pass
    first = unfold Passed in (p, m, refl, refl)

    go : (o : Bool)
        → (let t : Batched = if o then one_block p block else record rest { blocks = block ∷ rest.blocks; lines = (driven p block).line ∷ rest.lines } in
        Passed (reverse_aux t.blocks bs) (reverse_aux t.lines ls) t.pass)
    go true = first
    go false = k first

pub passed : (n : ℕ) (p : Pass) (bytes : List ℕ) (bs : List (List ℕ)) (ls : List Line) → Passed bs ls p
    → Passed (reverse_aux (batch_of n p bytes).blocks bs) (reverse_aux (batch_of n p bytes).lines ls) (batch_of n p bytes).pass
unfolding batch_of
passed zero p bytes bs ls m = m
passed (suc n) p [] bs ls m = m
passed (suc n) p (b ∷ bytes) bs ls m =
    let block : List ℕ = first_block (b ∷ bytes) in
    passed_on p block _ bs ls m (λ f. passed n (driven p block).pass (behind_first (b ∷ bytes)) (block ∷ bs) ((driven p block).line ∷ ls) f)

pub batch_holds : BatchHolds
batch_holds n bytes = every_pass _ _ _ (passed n Empty bytes [] [] (unfold Passed in refl))

-- what `drive_batch` leaves holds with it
pub begins : (out : List ℕ) (p : Pass) (bytes : List ℕ) (q : Pass) → q ≡ (batch_into out p bytes).pass → p ≡ Empty → PassHoldsOf (batch_into out p bytes) q
begins out p bytes q a e = rw (a, e) (batch_holds (length out / 128) bytes)
