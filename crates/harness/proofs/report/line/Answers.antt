-- Each piece behind the one before.
use Rattle.std.proofs.Common.{true, false, rules, arith}
use Rattle.harness.proofs.Line.{pieces, line_put}
use Rattle.harness.proofs.Putting.{whole}
use Rattle.harness.proofs.report.line.Goals as goal

pub returns-then-tally : goal.returns-then-tally
returns-then-tally c =
    let puts = pieces c.args.tally true c.if-tally.true c.put-at.ensures.puts c.put_decimal-at.ensures.puts c.put-at-2.ensures.puts c.put_decimal-at-2.ensures.puts c.put.ensures.puts in
    record {
      value = omega (arith, puts.long);
      out_after = whole c.args.out.now _ _ _ puts;
      upper_bound = search rules;
      line = line_put c.args.tally c.args.out.now _ _ (omega arith) (omega arith) puts;
    }

pub returns-else-tally : goal.returns-else-tally
returns-else-tally c =
    let puts = pieces c.args.tally false c.if-tally.false c.put-at.ensures.puts c.put_decimal-at.ensures.puts c.put-at-2.ensures.puts c.put_decimal-at-2.ensures.puts c.put-else-tally.ensures.puts in
    record {
      value = omega (arith, puts.long);
      out_after = whole c.args.out.now _ _ _ puts;
      upper_bound = search rules;
      line = line_put c.args.tally c.args.out.now _ _ (omega arith) (omega arith) puts;
    }
