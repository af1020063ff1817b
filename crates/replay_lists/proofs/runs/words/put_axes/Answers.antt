use Rattle.std.proofs.Common.{◌∙◌, sym, ◌<◌, ◌≤◌, length, arith}
use Rattle.replay_lists.proofs.Loops.{put_next, put_done}
use Rattle.replay_lists.proofs.runs.words.put_axes.Goals as goal

pub loop-i-preserved : goal.loop-i-preserved
loop-i-preserved g c =
    let o : c.loop-i.i < length c.args.output = omega arith in
    let a : c.loop-i.i < length c.args.memory.axes = omega arith in
    rw c.put_axis.ensures (put_next g.row.N c.loop-i.i c.args.output c.args.memory.axes _ _ _ o a ∙ c.loop-i.invariant)

pub returns : goal.returns
returns g c =
    let o : length c.args.output ≤ c.loop-i.i = omega arith in
    sym (put_done g.row.N c.loop-i.i c.args.output _ _ o) ∙ c.loop-i.invariant
