-- A tick's line has at most 53 bytes, a refused block's 24, and the last line 99.
use Prim.Native.Nat.{◌≤◌}
use mathlib.Core.Path.{◌≡◌, refl}
use lib.ListN.{length, length-append}
use native.Mathlib.Omega.{arith}
use Rattle.std.specs.Prelude.{Result, Ok, Err}
use Rattle.linear.specs.declared.Vector4f.{Vector4f}
use Rattle.tick.specs.declared.refusal.Refusal.{Refusal}
use Rattle.tick.specs.declared.tally.Totals.{Totals}
use Rattle.tick.specs.Refusal.{refusal_number}
use Rattle.line_text.specs.declared.line.TickLine.{TickLine}
use Rattle.line_text.specs.declared.line.RefusedLine.{RefusedLine}
use Rattle.line_text.specs.Wheels.{hex, wheels_text}
use Rattle.line_text.specs.Text.{ending_text, tick_text, refused_text}
use Rattle.line_text.specs.Totals.{totals_text}
use Rattle.line_text.proofs.Digits.{at_most_ten}

-- four wheel speeds are 36 bytes
thirty_six : (v : Vector4f) → length (wheels_text v) ≡ 36
unfolding hex
thirty_six v = refl

ending_fits : (e : Result Vector4f Refusal) → length (ending_text e) ≤ 36
ending_fits (Ok v) = omega (arith, thirty_six v)
ending_fits (Err refusal) = simp length-append (omega (arith, at_most_ten (refusal_number refusal)))

pub tick_fits : (t : TickLine) → length (tick_text t) ≤ 53
tick_fits t = simp length-append (omega (arith, at_most_ten t.number, ending_fits t.ending))

pub refused_fits : (r : RefusedLine) → length (refused_text r) ≤ 24
refused_fits r = simp length-append (omega (arith, at_most_ten r.number, at_most_ten (refusal_number r.refusal)))

pub totals_fit : (t : Totals) → length (totals_text t) ≤ 99
totals_fit t =
    simp length-append (omega (
      arith,
      at_most_ten t.ticks,
      at_most_ten t.counts.quiet,
      at_most_ten t.counts.gathered,
      at_most_ten t.counts.complete,
      at_most_ten t.counts.reseeded,
      at_most_ten t.counts.taken,
      at_most_ten t.counts.jump,
      at_most_ten t.counts.first,
      at_most_ten t.counts.refused,
    ))
