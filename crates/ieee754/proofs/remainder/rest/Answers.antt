-- Each kind of word has its rest.
use denote.Floats.{passes}
use Rattle.ieee754.proofs.Beyond.{rest_below_four, no_rest_beyond, positive_rest, negative_rest}
use Rattle.ieee754.proofs.remainder.rest.Goals as goal

pub returns-then-size-lt1082130432 : goal.returns-then-size-lt1082130432
returns-then-size-lt1082130432 c = rest_below_four c.args.x c.to_bits-b.result (passes _ c.well_formed.0.1) c.to_bits-b.ensures c.if-size-lt1082130432.true

pub returns-then-size-ge2139095040 : goal.returns-then-size-ge2139095040
returns-then-size-ge2139095040 c = no_rest_beyond c.args.x c.to_bits-b.result (passes _ c.well_formed.0.1) c.to_bits-b.ensures c.if-size-ge2139095040.true

pub returns-then-b-lt2147483648 : goal.returns-then-b-lt2147483648
returns-then-b-lt2147483648 c =
    positive_rest c.args.x c.to_bits-b.result (passes _ c.well_formed.0.1) c.to_bits-b.ensures c.doubled_rest-r.result c.if-size-lt1082130432.false c.if-size-ge2139095040.false
    c.doubled_rest-r.ensures.value c.doubled_rest-r.ensures.bound c.if-b-lt2147483648.true

pub returns-else-b-lt2147483648 : goal.returns-else-b-lt2147483648
returns-else-b-lt2147483648 c =
    negative_rest c.args.x c.to_bits-b.result (passes _ c.well_formed.0.1) c.to_bits-b.ensures c.doubled_rest-r.result c.if-size-lt1082130432.false c.if-size-ge2139095040.false
    c.doubled_rest-r.ensures.value c.doubled_rest-r.ensures.bound c.if-b-lt2147483648.false
