use Rattle.std.proofs.Common.{◌≡◌, ◌+◌, ◌-◌, arith}
use Rattle.std.proofs.lemmas.Fmt.{length-decimal-le}
use Rattle.std.proofs.lemmas.List.{drop-set}
use Rattle.std.specs.Fmt.{decimal}
use Rattle.seam_value.specs.Values.{decimal_of}
use Rattle.seam_value.proofs.NumberWords.{decimal_is}
use Rattle.seam_report.proofs.values.write_field.Goals as goal

pub write_digits-start-requires : goal.write_digits-start-requires
write_digits-start-requires c = (
  omega (arith, length-decimal-le 20 c.args.number (omega arith) (omega arith) c.ranges.number.fits, c.requires.0),
  c.requires.1,
)

pub overflow_sub-start : goal.overflow_sub-start
overflow_sub-start c =
    let short = length-decimal-le 20 c.args.number (omega arith) (omega arith) c.ranges.number.fits in
    omega (arith, short, c.requires.0, c.write_digits-start.ensures.start)

pub returns-clause-start : goal.returns-clause-start
returns-clause-start c =
    let short = length-decimal-le 20 c.args.number (omega arith) (omega arith) c.ranges.number.fits in (
      omega (arith, short, c.requires.0, c.write_digits-start.ensures.start),
      omega (arith, short, c.requires.0, c.write_digits-start.ensures.start),
    )

pub returns-clause-written : goal.returns-clause-written
returns-clause-written c =
    let short = length-decimal-le 20 c.args.number (omega arith) (omega arith) c.ranges.number.fits in
    let s = c.write_digits-start in
    let back : s.result - 1 + 1 ≡ s.result = omega (arith, short, c.requires.0, s.ensures.start) in
    let text : decimal_of c.args.number ≡ decimal c.args.number = decimal_is c.args.number (omega (arith, c.ranges.number.fits)) in
    rw (
      drop-set s.new.buf (s.result - 1) 32 (omega (arith, short, c.requires.0, c.requires.1, s.ensures.start)),
      back,
      s.ensures.written,
      text,
    )
