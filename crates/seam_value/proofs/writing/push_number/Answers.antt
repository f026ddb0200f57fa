use Rattle.std.proofs.Common.{◌≡◌, rules, arith}
use Rattle.std.specs.Fmt.{decimal}
use Rattle.seam_value.specs.Values.{decimal_of}
use Rattle.seam_value.proofs.Decimals.{decimal_of_is, decimal_of_digit, decimal_of_two, decimal_of_three}
use Rattle.seam_value.proofs.writing.push_number.Goals as goal

pub returns-clause-ok : goal.returns-clause-ok
returns-clause-ok c =
    let text : decimal_of c.args.number ≡ decimal c.args.number = decimal_of_is c.args.number (omega (arith, c.ranges.number.fits)) in
    rw text (search rules)

pub returns-then-number-lt10-clause-ok : goal.returns-then-number-lt10-clause-ok
returns-then-number-lt10-clause-ok c = rw (decimal_of_digit c.args.number c.if-number-lt10.true) (search rules)

pub returns-then-number-lt100-clause-ok : goal.returns-then-number-lt100-clause-ok
returns-then-number-lt100-clause-ok c =
    let least = c.if-number-lt10.false in
    rw (decimal_of_two c.args.number (omega arith) c.if-number-lt100.true) (search rules)

pub returns-then-number-lt1000-clause-ok : goal.returns-then-number-lt1000-clause-ok
returns-then-number-lt1000-clause-ok c =
    let least = c.if-number-lt100.false in
    rw (decimal_of_three c.args.number (omega arith) c.if-number-lt1000.true) (search rules)
