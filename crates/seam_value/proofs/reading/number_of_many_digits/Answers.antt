use Rattle.std.proofs.Common.{rules, arith, ◌≡◌, ◌∙◌, ◌<◌, ◌≤◌, true, length, refl, sym}
use Rattle.std.specs.List.{list_all}
use Rattle.std.specs.Str.Parse.{digits_value}
use Rattle.seam_value.specs.Numerals.{is_digit}
use Rattle.seam_value.proofs.Magnitudes.{digit_at, with_next, at_least, all_next}
use Rattle.seam_value.proofs.reading.number_of_many_digits.Goals as goal

pub returns-in_err-number : goal.returns-in_err-number
returns-in_err-number c =
    let inside : c.loop-byte.byte-index < length c.args.bytes.now = omega arith in
    let big : list_all is_digit c.args.bytes.now ≡ true → 18446744073709551616 ≤ digits_value 10 c.args.bytes.now = λ all.
    let digit = digit_at c.args.bytes.now c.loop-byte.byte-index all inside in
    let most = at_least c.args.bytes.now c.loop-byte.byte-index digit inside in
    omega (arith, most, c.in_err-number.ensures digit, c.loop-byte.invariant.value) in
    search (rules, big)

pub loop-byte-preserved : goal.loop-byte-preserved
loop-byte-preserved c =
    let inside : c.loop-byte.byte-index < length c.args.bytes.now = omega arith in
    let next = with_next c.args.bytes.now c.loop-byte.byte-index c.in_ok-number.ensures.0 inside in
    record {
      all = all_next c.args.bytes.now c.loop-byte.byte-index c.loop-byte.invariant.all c.in_ok-number.ensures.0 inside;
      value = c.in_ok-number.ensures.1 ∙ (rw c.loop-byte.invariant.value refl ∙ sym next);
    }
