-- A read puts what the reader lost behind what was there.
use Rattle.std.proofs.Common.{arith, ◌≡◌, ℕ, ◌+◌, ◌-◌, ◌≤◌, List, ◌++◌, rules, length, take, sym, ap, ◌∙◌, subst, zero-le, length-take-le}
use Rattle.std.specs.Io.KnownBytes.{Consumes}
use Rattle.std.proofs.KnownBytes.{Consumes-trans, Consumes-kept}
use Rattle.std.proofs.Math.Seq.{take-append-add}
use Rattle.std.proofs.lemmas.List.{append-nil}
use borrow.Rule.Slice.PartMut.{put_mid, post_of}
use lib.Seq.{take-append-le}
use Rattle.full_io.proofs.read_full.Goals.{in-Ok, in-Err}
use Rattle.full_io.proofs.read_full.Goals as goal

take-put_mid_more : (a k n : ℕ) (xs ys : List ℕ) → a ≤ length xs → n ≤ length ys → take (a + n) (put_mid a k xs ys) ≡ take a xs ++ take n ys
take-put_mid_more a k n xs ys within fits =
    let after = post_of a k xs in
    subst (λ (m : ℕ). take (m + n) (put_mid a k xs ys) ≡ take a xs ++ take n (ys ++ after)) (length-take-le a xs within) (take-append-add (take a xs) (ys ++ after) n)
    ∙ ap (λ l. take a xs ++ l) (take-append-le n ys after fits)

take-put_mid : (a k : ℕ) (xs ys : List ℕ) → a ≤ length xs → take a (put_mid a k xs ys) ≡ take a xs
take-put_mid a k xs ys within =
    let e : a + 0 ≡ a = omega arith in
    subst (λ (m : ℕ). take m (put_mid a k xs ys) ≡ take a xs) e (take-put_mid_more a k 0 xs ys within zero-le ∙ append-nil (take a xs))

pub loop-preserved : goal.loop-preserved
loop-preserved g c =
    let from = c.loop.done in
    let buf = c.loop.buf in
    let got = c.read.new.buf in
    let old = c.loop.invariant in
    elim c.match-read.branch [
      | in-Ok w ↦
          let filled = take-put_mid_more from (length buf - from) w.in-Ok.n buf got old.1 w.in-Ok.ensures.bound.0 in
          rw w.done-is (search rules, search rules, subst (Consumes _ _) (sym filled) (Consumes-trans _ _ _ _ _ old.2 w.in-Ok.ensures.bytes.0))
      | in-Err w ↦
          rw w.done-is
          (search rules, search rules, subst (Consumes _ _) (sym (take-put_mid from (length buf - from) buf got old.1)) (Consumes-kept _ _ _ _ old.2 w.in-Err.ensures.bytes))
    ]
