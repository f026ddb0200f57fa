use Rattle.std.proofs.Common.{rules, ◌≡◌, ◌≢◌, ◌∙◌, ap, ℕ, Err, true, arith, sym, subst, Bool}
use Rattle.std.proofs.lemmas.Int.{to_z-of_z}
use mir.Syntax.{w128}
use mir.Val.{to_z, of_z}
use Rattle.std.specs.Str.Parse.{digits_value}
use Rattle.seam_value.specs.Numerals.{IsNumeral, signed}
use Rattle.seam_value.specs.Values.{number_text}
use Rattle.seam_value.specs.declared.values.ValueError.TheVariants.{NotNumber, OutOfRange}
use Rattle.seam_value.proofs.Signs.{IsSignedNumeral, signed_numeral, no_minus_zero, number_text-signed, no_number_text, too_big}
use Rattle.seam_value.proofs.Answers.{number_value, number_cause, number_read}
use Rattle.seam_value.proofs.reading.read_number.Goals as goal
use Rattle.seam_value.proofs.reading.read_number.Goals.{After-in_range, then-is_negative+else-size-eq0, else-is_negative}

-- the number read is the one that the bytes spell
spelled : (c : After-in_range) → number_text (to_z w128 (of_z w128 c.signed.result)) ≡ c.args.bytes.now
spelled c =
    let back : to_z w128 (of_z w128 c.signed.result) ≡ c.signed.result =
    to_z-of_z w128 c.signed.result (record { sfits = c.signed.type_inv }) in
    let value : c.in-Some.size ≡ digits_value 10 c.split_sign-is_negative.result.1.now = c.in-Some-2.size-is ∙ c.in-Some-2.ensures.1 in
    let other : c.split_sign-is_negative.result.0 ≡ true → digits_value 10 c.split_sign-is_negative.result.1.now ≢ 0 =
    elim c.if-is_negative.branch [
      | then-is_negative+else-size-eq0 w ↦ λ negative zero. w.if-size-eq0.false (value ∙ zero)
      | else-is_negative w ↦ λ negative zero. let positive = w.if-is_negative.false in cc
    ] in
    let numeral : IsSignedNumeral c.split_sign-is_negative.result.0 c.split_sign-is_negative.result.1.now =
    signed_numeral c.split_sign-is_negative.result.0 c.split_sign-is_negative.result.1.now c.in-Some-2.ensures.0 other in
    ap number_text (back ∙ c.signed.ensures ∙ ap (λ (n : ℕ). signed c.split_sign-is_negative.result.0 n) value)
    ∙ number_text-signed c.args.bytes.now c.split_sign-is_negative.result.0 c.split_sign-is_negative.result.1.now
    c.split_sign-is_negative.ensures numeral

pub returns-in-Some-clause-cause : goal.returns-in-Some-clause-cause
returns-in-Some-clause-cause c =
    let none = no_minus_zero c.split_sign-is_negative.result.1.now (sym c.in-Some.ensures.1 ∙ c.if-size-eq0.true) in (
      c.requires,
      no_number_text c.args.bytes.now c.split_sign-is_negative.result.0 c.split_sign-is_negative.result.1.now
          c.split_sign-is_negative.ensures
          (λ h. none (subst (λ (b : Bool). IsSignedNumeral b c.split_sign-is_negative.result.1.now) c.if-is_negative.true h)),
    )

pub returns-in-Some-clause-spelled : goal.returns-in-Some-clause-spelled
returns-in-Some-clause-spelled c =
    number_read (Err NotNumber) c.args.bytes.now c.args.t c.requires tt (returns-in-Some-clause-cause c)

pub returns-in-Some-2-clause-value : goal.returns-in-Some-2-clause-value
returns-in-Some-2-clause-value c =
    number_value c.in_range.result c.args.t (to_z w128 (of_z w128 c.signed.result)) c.args.bytes.now (spelled c) c.in_range.ensures.value

pub returns-in-Some-2-clause-cause : goal.returns-in-Some-2-clause-cause
returns-in-Some-2-clause-cause c =
    number_cause c.in_range.result c.args.t (to_z w128 (of_z w128 c.signed.result)) c.args.bytes.now c.requires (spelled c)
    c.in_range.ensures.cause

pub returns-in-Some-2-clause-spelled : goal.returns-in-Some-2-clause-spelled
returns-in-Some-2-clause-spelled c =
    number_read c.in_range.result c.args.bytes.now c.args.t c.requires (returns-in-Some-2-clause-value c)
    (returns-in-Some-2-clause-cause c)

pub returns-in-None-clause-cause : goal.returns-in-None-clause-cause
returns-in-None-clause-cause c =
    let digits : IsNumeral c.split_sign-is_negative.result.1.now = search rules in
    let size = digits_value 10 c.split_sign-is_negative.result.1.now in
    let big = c.in-None.ensures digits in
    let numeral : IsSignedNumeral c.split_sign-is_negative.result.0 c.split_sign-is_negative.result.1.now =
    signed_numeral c.split_sign-is_negative.result.0 c.split_sign-is_negative.result.1.now digits (λ negative zero. omega (arith, big)) in (
      c.requires,
      signed c.split_sign-is_negative.result.0 size,
      number_text-signed c.args.bytes.now c.split_sign-is_negative.result.0 c.split_sign-is_negative.result.1.now
          c.split_sign-is_negative.ensures numeral,
      too_big c.args.t c.split_sign-is_negative.result.0 size big,
    )

pub returns-in-None-clause-spelled : goal.returns-in-None-clause-spelled
returns-in-None-clause-spelled c =
    number_read (Err OutOfRange) c.args.bytes.now c.args.t c.requires tt (returns-in-None-clause-cause c)

pub returns-in-None-2-clause-cause : goal.returns-in-None-2-clause-cause
returns-in-None-2-clause-cause c =
    let none : ¬ (IsNumeral c.split_sign-is_negative.result.1.now) = search rules in (
      c.requires,
      no_number_text c.args.bytes.now c.split_sign-is_negative.result.0 c.split_sign-is_negative.result.1.now
          c.split_sign-is_negative.ensures (λ h. none h.numeral),
    )

pub returns-in-None-2-clause-spelled : goal.returns-in-None-2-clause-spelled
returns-in-None-2-clause-spelled c =
    number_read (Err NotNumber) c.args.bytes.now c.args.t c.requires tt (returns-in-None-2-clause-cause c)
