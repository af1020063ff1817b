-- What is left to put makes of the words so far what all makes of the first ones.
use Rattle.std.proofs.Common.{◌≡◌, drop}
use Rattle.replay_lists.specs.Words.{axes_put}
use Rattle.replay_lists.proofs.runs.words.put_axes.Given as goal

abbrev pub invariant-loop-i : goal.invariant-loop-i
invariant-loop-i g l = axes_put g.row.N l.i (drop l.i l.output) (drop l.i l.memory.axes) l.words ≡ axes_put g.row.N 0 l.output l.memory.axes l.initial.words
