-- r = x % (2.0 * PI) is exact, and beyond PI, which is half of 2.0 * PI, it takes one more multiple.
use mathlib.Core.Path.{refl}
use mathlib.Core.Bool.{true, false}
use denote.Floats.{passes}
use lib.Dec.{lit≤}
use lib.IntN.{negsuc}
use lib.Ieee.{binary32, neg, sub, fits, of_bits}
use Rattle.ieee754.proofs.Half.{Divisor, beyond_half, within_half}
use Rattle.ieee754.proofs.remainder.remainder.Goals as goal

-- 2.0 * PI is 13176795 / 2 ^ 21, and PI is 13176795 / 2 ^ 22
by_tau : Divisor binary32 13176795 (negsuc 20) (negsuc 21)
unfolding fits
by_tau = record { fit = tt; odd = refl; long = lit≤ tt; half = refl }

pub returns-then-r : goal.returns-then-r
unfolding of_bits neg sub
returns-then-r c =
    let is = c.rest-r.ensures in
    rw is (beyond_half by_tau false c.args.x (passes _ c.well_formed.0.1) (rw is at c.if-r.true))

pub returns-then-r-2 : goal.returns-then-r-2
unfolding of_bits neg
returns-then-r-2 c =
    let is = c.rest-r.ensures in
    rw is (beyond_half by_tau true c.args.x (passes _ c.well_formed.0.1) (rw is at c.if-r-2.true))

pub returns : goal.returns
unfolding of_bits neg
returns c =
    let is = c.rest-r.ensures in
    rw is (within_half by_tau c.args.x (passes _ c.well_formed.0.1) (rw is at c.if-r.false) (rw is at c.if-r-2.false))
