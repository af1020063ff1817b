-- The line is put into the room behind the text that is there.
use Rattle.std.proofs.Common.{rules, arith, ap, List, ℕ, ◌++◌, ◌-◌, length, take, drop}
use Rattle.line_text.specs.Text.{line_text}
use Rattle.pass.proofs.Appending.{appended}
use Rattle.pass.proofs.batch.append_line.Goals as goal

pub returns-clause-out_after : goal.returns-clause-out_after
returns-clause-out_after c =
    let n = c.write_line-len.ensures in
    let out = c.args.out.now in
    appended out (line_text c.args.line) c.unwrap-room.result.now _ c.args.at 128 c.requires (omega (arith, n.value, n.upper_bound)) (search rules)
    (ap (λ (l : List ℕ). l ++ drop 128 (take (length out - c.args.at) (drop c.args.at out))) n.out_after)
