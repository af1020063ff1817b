-- The library's digits are those of the word.
use Rattle.std.proofs.Common.{rules, refl, arith, ◌≡◌}
use Rattle.line_text.proofs.Putting.{put_is}
use Rattle.line_text.proofs.Library.{same}
use Rattle.line_text.specs.Wheels.{hex}
use Rattle.line_text.proofs.pieces.put_hex.Goals as goal

pub returns-clause-puts : goal.returns-clause-puts
unfolding hex
returns-clause-puts c =
    let digits : c.encode_to_slice.new.output ≡ hex c.args.x = search (rules, same) in
    put_is c.args.out.now (hex c.args.x) _ c.args.at 8 (omega (arith, c.told-out, c.requires)) digits refl
