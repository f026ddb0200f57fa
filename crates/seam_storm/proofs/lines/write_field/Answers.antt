use Rattle.std.proofs.Common.{◌≡◌, length, arith, ap, ◌∙◌, lit<}
use Rattle.std.specs.Fmt.{decimal}
use Rattle.std.proofs.lemmas.Fmt.{length-decimal-le}
use Rattle.seam_storm.proofs.lines.write_field.Goals as goal

pub write-requires-2 : goal.write-requires-2
write-requires-2 c =
    let short = length-decimal-le 4 c.args.n (lit< tt) c.requires.small (omega (arith, c.requires.small)) in
    let text : length c.as_bytes.result.now ≡ length (decimal c.args.n) = ap length (c.as_bytes.ensures.value ∙ c.format.ensures.text) in
    let one = c.write.ensures.len in
    let room = c.requires.room in
    omega (arith, short, text, one, room)

pub returns-clause-len : goal.returns-clause-len
returns-clause-len c =
    let short = length-decimal-le 4 c.args.n (lit< tt) c.requires.small (omega (arith, c.requires.small)) in
    let text : length c.as_bytes.result.now ≡ length (decimal c.args.n) = ap length (c.as_bytes.ensures.value ∙ c.format.ensures.text) in
    let one = c.write.ensures.len in
    let two = c.write-2.ensures.len in
    omega (arith, short, text, one, two)
