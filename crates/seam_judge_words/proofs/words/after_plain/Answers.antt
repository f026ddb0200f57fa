use Rattle.std.proofs.Common.{◌≡◌, ◌∙◌, sym, arith, true, false}
use Rattle.seam_law_texts.specs.Words.{is_plain}
use Rattle.seam_judge_words.proofs.WordSteps.{plain_step, plain_stop, plain_end, none_left}
use Rattle.seam_judge_words.proofs.words.after_plain.Goals as goal

pub loop-byte-init : goal.loop-byte-init
loop-byte-init c = record { within = omega arith; told = λ front rest plain stops e. (front, plain, e) }

pub loop-byte-preserved : goal.loop-byte-preserved
loop-byte-preserved c = record {
  within = omega (arith, c.loop-byte.invariant.within, c.in-Some.ensures.cases.1);
  told = λ front rest plain stops e.
      let m = c.loop-byte.invariant.told front rest plain stops e in
      let plainly : is_plain c.in-Some.byte.now ≡ true = sym c.is_plain.ensures ∙ c.if-not-is_plain.false in
      plain_step c.in-Some.byte.now c.in-Some.others.now rest m.0 m.1 stops (sym c.in-Some.ensures.cases.0 ∙ m.2) plainly;
}

pub returns-then-not-is_plain-clause-told : goal.returns-then-not-is_plain-clause-told
returns-then-not-is_plain-clause-told c = λ front rest plain stops e.
    let m = c.loop-byte.invariant.told front rest plain stops e in
    let other : is_plain c.in-Some.byte.now ≡ false = sym c.is_plain.ensures ∙ c.if-not-is_plain.true in
    c.in-Some.ensures.cases.0
    ∙ plain_stop c.in-Some.byte.now c.in-Some.others.now rest m.0 m.1 (sym c.in-Some.ensures.cases.0 ∙ m.2) other

pub returns-clause-told : goal.returns-clause-told
returns-clause-told c = λ front rest plain stops e.
    let m = c.loop-byte.invariant.told front rest plain stops e in
    plain_end c.loop-byte.rest.now rest m.0 (none_left c.loop-byte.rest.now c.in_default.ensures.cases) m.2
