-- Each number behind the one before.
use Rattle.line_text.proofs.Putting.{and_then}
use Rattle.line_text.proofs.totals.put_totals.Goals as goal

pub returns-clause-puts : goal.returns-clause-puts
returns-clause-puts c =
    let quiet = and_then c.put_decimal-at.ensures.puts c.put_number-at.ensures.puts in
    let gathered = and_then quiet c.put_number-at-2.ensures.puts in
    let complete = and_then gathered c.put_number-at-3.ensures.puts in
    let reseeded = and_then complete c.put_number-at-4.ensures.puts in
    let taken = and_then reseeded c.put_number-at-5.ensures.puts in
    let jump = and_then taken c.put_number-at-6.ensures.puts in
    let first = and_then jump c.put_number-at-7.ensures.puts in
    let refused = and_then first c.put_number-at-8.ensures.puts in
    and_then refused c.put.ensures.puts
