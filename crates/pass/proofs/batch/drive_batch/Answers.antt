-- A turn is one block, cut off the front of the bytes that are left.
use Rattle.std.proofs.Common.{rules, refl, ◌∙◌}
use Rattle.pass.proofs.Going.{begin, turn, stopped, emptied}
use Rattle.pass.proofs.BatchHolds.{begins}
use Rattle.pass.proofs.batch.drive_batch.Goals as goal

pub loop-block-init : goal.loop-block-init
loop-block-init c = record {
  size = search rules;
  accepted = refl;
  going = rw (c.into_iter-block-iterator.ensures.into_iter_gives, c.take-block-items.ensures.source, c.take-block-items.ensures.count, c.chunks.ensures.rest) (begin _ _ _);
}

pub loop-block-preserved : goal.loop-block-preserved
loop-block-preserved c =
    let s = c.in-Some.ensures.steps in
    let i = c.loop-block.invariant in
    let d = c.drive-line.ensures in
    let n = c.append_line.ensures in
    record {
      size = s.0.0 ∙ i.size;
      accepted = search rules;
      going = turn i.going _ _ _ _ _ c.append_line.new.out i.accepted s.1 s.0.1.0 (rw i.size at s.0.1.1) s.0.1.2 d.1 (search rules) (rw d.0 at n.out_after) n.upper_bound (search rules);
    }

pub returns-in-None : goal.returns-in-None
returns-in-None c =
    let e = emptied c.loop-block.invariant.going (λ h. (c.in-None.ensures.steps h).1.0) in
    record { value = (e.0, e.1); out_after = e.2; within = search rules; begins = begins _ _ _ _ e.1 }

pub returns-then-w : goal.returns-then-w
returns-then-w c =
    let s = c.in-Some.ensures.steps in
    let i = c.loop-block.invariant in
    let d = c.drive-line.ensures in
    let n = c.append_line.ensures in
    let e = stopped (turn i.going _ _ _ _ _ c.append_line.new.out i.accepted s.1 s.0.1.0 (rw i.size at s.0.1.1) s.0.1.2 d.1 (search rules) (rw d.0 at n.out_after) n.upper_bound (search rules)) c.if-w.true in
    record { value = (e.0, e.1); out_after = e.2; within = search rules; begins = begins _ _ _ _ e.1 }
