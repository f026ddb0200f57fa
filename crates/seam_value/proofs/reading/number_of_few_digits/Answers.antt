use Rattle.std.proofs.Common.{◌≡◌, ◌∙◌, true, get_or, sym, arith}
use Rattle.seam_value.specs.Numerals.{is_digit}
use Rattle.seam_value.proofs.Magnitudes.{with_next, all_next, step_fits}
use Rattle.seam_value.proofs.reading.number_of_few_digits.Goals as goal

pub overflow_mul-number : goal.overflow_mul-number
overflow_mul-number c =
    let digit : is_digit (get_or c.args.bytes.now c.loop-byte.byte-index 0) ≡ true = sym c.is_digit.ensures ∙ c.if-not-is_digit.false in
    let fits = step_fits c.args.bytes.now c.loop-byte.byte-index c.loop-byte.number c.requires c.loop-byte.invariant.all
    c.loop-byte.invariant.value digit c.loop-byte-test.true in
    omega (arith, fits)

pub overflow_add-number : goal.overflow_add-number
overflow_add-number c =
    let digit : is_digit (get_or c.args.bytes.now c.loop-byte.byte-index 0) ≡ true = sym c.is_digit.ensures ∙ c.if-not-is_digit.false in
    let fits = step_fits c.args.bytes.now c.loop-byte.byte-index c.loop-byte.number c.requires c.loop-byte.invariant.all
    c.loop-byte.invariant.value digit c.loop-byte-test.true in
    omega (arith, fits, c.from.ensures)

pub loop-byte-preserved : goal.loop-byte-preserved
loop-byte-preserved c =
    let digit : is_digit (get_or c.args.bytes.now c.loop-byte.byte-index 0) ≡ true = sym c.is_digit.ensures ∙ c.if-not-is_digit.false in
    record {
      all = all_next c.args.bytes.now c.loop-byte.byte-index c.loop-byte.invariant.all digit c.loop-byte-test.true;
      value = omega (
        arith,
        c.from.ensures,
        c.loop-byte.invariant.value,
        with_next c.args.bytes.now c.loop-byte.byte-index digit c.loop-byte-test.true,
      );
    }
