-- A batch is read and driven, and its text is written; a failure leaves a beginning of the text.
use Rattle.std.proofs.Common.{ℕ, Ok, Err, Result, OnOk, OnErr, ◌≡◌, true, take, length-take, arith, subst}
use mathlib.Core.Logic.{◌⊎◌}
use Rattle.std.proofs.Math.Logic.{⊎_map}
use Rattle.std.proofs.lemmas.Result.{on_ok_weaker, on_err_weaker}
use Rattle.std.specs.Io.KnownBytes.{Appends, IsAtEnd}
use Rattle.full_io.specs.Failed.{AppendsNotAll}
use Rattle.pass.proofs.Running.{begin, read_batch, read_failed, write_failed, goes_on, fewer_left, last_failed, wrote_all, read_all, last_text}
use Rattle.pass.proofs.run.drive_all.Goals as goal

on_ok : {T E P : Type 0} (r : Result T E) → P → OnOk r P
on_ok (Ok x) p = p
on_ok (Err e) p = tt

on_err : {T E P : Type 0} (r : Result T E) → P → OnErr r P
on_err (Ok x) p = tt
on_err (Err e) p = p

pub loop-n-init : goal.loop-n-init
loop-n-init g c = begin _ _

pub returns-in_err-n-clause-err : goal.returns-in_err-n-clause-err
returns-in_err-n-clause-err g c =
    let lost = c.in_err-n.ensures.err in
    on_err _ (read_failed c.loop-n.invariant _ (take lost.0 c.read_full.new.buf) lost.2 (omega (arith, length-take {A = ℕ})))

pub returns-in_err-write_full-clause-err : goal.returns-in_err-write_full-clause-err
returns-in_err-write_full-clause-err g c =
    let r = c.in_ok-n.ensures in
    let d = c.drive_batch-written.ensures in
    let t = read_batch c.in_ok-n.n c.read_full.new.buf c.loop-n.out _ (omega arith) (omega arith) r.bound.0 r.bytes r.end d.value d.out_after in
    on_err _ (write_failed c.loop-n.invariant t _ c.in_err-write_full.ensures.err)

pub loop-n-preserved : goal.loop-n-preserved
loop-n-preserved g c =
    let r = c.in_ok-n.ensures in
    let d = c.drive_batch-written.ensures in
    let t = read_batch c.in_ok-n.n c.read_full.new.buf c.loop-n.out _ (omega arith) (omega arith) r.bound.0 r.bytes r.end d.value d.out_after in
    goes_on c.loop-n.invariant t _ c.in_ok-write_full.ensures.ok (omega (arith, length-take {A = ℕ})) c.if-written.false

pub loop-n-smaller : goal.loop-n-smaller
loop-n-smaller g c =
    let r = c.in_ok-n.ensures in
    let d = c.drive_batch-written.ensures in
    let t = read_batch c.in_ok-n.n c.read_full.new.buf c.loop-n.out _ (omega arith) (omega arith) r.bound.0 r.bytes r.end d.value d.out_after in
    fewer_left c.loop-n.invariant t _ c.in_ok-write_full.ensures.ok (omega (arith, length-take {A = ℕ})) c.if-written.false

pub returns : goal.returns
returns g c =
    let r = c.in_ok-n.ensures in
    let d = c.drive_batch-written.ensures in
    let t = read_batch c.in_ok-n.n c.read_full.new.buf c.loop-n.out _ (omega arith) (omega arith) r.bound.0 r.bytes r.end d.value d.out_after in
    let end : (c.drive_batch-written.result.refused ≡ true) ⊎ IsAtEnd (g.R.Read.remaining c.read_full.new.reader) =
    ⊎_map (λ o. o) (λ h. r.end (omega arith)) c.then-written.either in
    let l = c.write_last-len.ensures in
    let last = last_text c.drive_batch-written.new.pass _ _ _ l.value l.out_after in
    let put = c.in_ok-write_full.ensures.ok in
    record {
      text = on_ok_weaker c.write_full-2.result (λ w. wrote_all c.loop-n.invariant t _ put end _ (subst (Appends _ _) last w)) c.write_full-2.ensures.ok;
      end = on_ok _ (read_all c.loop-n.invariant t _ put end);
      err = on_err_weaker c.write_full-2.result (λ w. last_failed c.loop-n.invariant t _ put end _ (subst (AppendsNotAll _ _) last w)) c.write_full-2.ensures.err;
    }
