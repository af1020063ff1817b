-- A write takes its bytes behind those that were written.
use Rattle.std.proofs.Common.{rules, take, subst, sym, ap, ◌∙◌, ◌++◌, List, ℕ, Option, None, Some}
use lib.Seq.{take-add}
use Rattle.std.proofs.lemmas.List.{take_rest}
use Rattle.std.specs.Io.KnownBytes.{Keeps, Appends}
use Rattle.std.proofs.KnownBytes.{Appends-trans}
use Rattle.full_io.proofs.write_full.Goals.{in-Ok, in-Err}
use Rattle.full_io.proofs.write_full.Goals as goal

-- what a failed write leaves
appends_kept : (a b c : Option (List ℕ)) (bs : List ℕ) → Appends a b bs → Keeps b c → Appends a c bs
appends_kept None b c bs p q = tt
appends_kept (Some x) None c bs p q = absurd p
appends_kept (Some x) (Some y) None bs p q = absurd q
appends_kept (Some x) (Some y) (Some z) bs p q = q ∙ p

pub loop-preserved : goal.loop-preserved
loop-preserved g c =
    let from = c.loop.written in
    let all = c.args.bytes.now in
    elim c.match-write.branch [
      | in-Ok w ↦
          let n = w.in-Ok.n in
          let more = take-add from n all ∙ ap (λ (l : List ℕ). take from all ++ take n l) (sym (take_rest all from)) in
          rw w.written-is (search rules, subst (Appends _ _) (sym more) (Appends-trans _ _ _ _ _ c.loop.invariant.1 w.in-Ok.ensures.bytes))
      | in-Err w ↦ rw w.written-is (search rules, appends_kept _ _ _ _ c.loop.invariant.1 w.in-Err.ensures.bytes)
    ]
