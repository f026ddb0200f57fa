use Rattle.std.proofs.Common.{arith}
use Rattle.seam_value.proofs.NumberWords.{spells_one_number}
use Rattle.seam_accept.proofs.naming.place_named.Goals as goal

pub returns-else-place-header : goal.returns-else-place-header
returns-else-place-header c n spells within =
    let same = spells_one_number c.args.word.now n c.in-Some.place spells c.in-Some.ensures in
    let outside = c.if-place-header.false in
    omega (arith, same, outside)
