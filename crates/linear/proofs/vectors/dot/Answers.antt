-- The chain's items are the products, and `reduce` adds them from the left.
use Rattle.std.proofs.Common.{rules, tests, ◌∙◌, ap}
use Rattle.std.specs.Option.{unwrap_or}
use Rattle.std.proofs.lemmas.Iterator.{YieldsList-from_slice, YieldsList-from_map, YieldsList-from_zip}
use lib.Ieee.{binary32, add}
use Rattle.linear.specs.Vector.{zero_float}
use Rattle.linear.proofs.Products.{product, reduced, dot_reduced}
use Rattle.linear.proofs.vectors.dot.Goals as goal

pub returns : goal.returns
returns g c =
    c.unwrap_or.ensures
    ∙ ap (λ o. unwrap_or o zero_float)
    (reduced _ (add binary32) _ (λ a x b q k. search (rules, tests)) c.map.result _ c.reduce.ensures.ran
    (YieldsList-from_map _ product (YieldsList-from_zip (YieldsList-from_slice c.args.v (cc)) (YieldsList-from_slice c.args.o (cc))) c.map.ensures.closure (λ x r q k. search (rules, tests))))
    ∙ dot_reduced c.args.v c.args.o
