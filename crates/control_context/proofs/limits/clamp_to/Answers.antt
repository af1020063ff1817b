-- The derived `!=` is the mark's three.
use Rattle.std.proofs.Common.{◌≡◌, ◌∙◌, ◌||◌}
use lib.Ieee.{eq, ne}
use Rattle.control_context.specs.Clamped.{clamped_to}
use Rattle.control_context.proofs.ClampedLaws.{some_differs}
use Rattle.control_context.proofs.limits.clamp_to.Goals as goal

pub returns : goal.returns
unfolding clamped_to ne
returns c =
    let v = c.args.v in
    let x = c.clamp_within.result in
    let y = c.clamp_within-2.result in
    let z = c.clamp_within-3.result in
    let marked : c.ne.result ≡ (ne x v.x || ne y v.y || ne z v.z) = c.ne.ensures ∙ some_differs (eq x v.x) (eq y v.y) (eq z v.z) in
    cc
