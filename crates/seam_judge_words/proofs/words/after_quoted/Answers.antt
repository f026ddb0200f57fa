use Rattle.std.proofs.Common.{◌++◌, ◌∷◌, ◌∙◌, arith, flat_map}
use Rattle.seam_value.specs.Texts.{spelled_byte}
use Rattle.seam_law_texts.proofs.OneLine.{after_quotes}
use Rattle.seam_judge_words.proofs.WordSteps.{quoted_step, quoted_end}
use Rattle.seam_judge_words.proofs.words.after_quoted.Goals as goal

pub loop-others-init : goal.loop-others-init
loop-others-init c = record {
  within = c.after_byte-rest.ensures.within;
  told = λ content rest e.
      (content, c.after_byte-rest.ensures.told 34 (flat_map spelled_byte content ++ 34 ∷ rest) (e ∙ after_quotes content rest));
}

pub loop-others-preserved : goal.loop-others-preserved
loop-others-preserved c = record {
  within = omega (arith, c.loop-others.invariant.within, c.in-Some.ensures.shorter);
  told = λ content rest e.
      let m = c.loop-others.invariant.told content rest e in
      quoted_step c.loop-others.rest.now c.in-Some.others.now rest m.0 c.in-Some.ensures.found
      (λ r begins. let none = c.in-Some.ensures.none r begins in cc) m.1;
}

pub returns-clause-told : goal.returns-clause-told
returns-clause-told c = λ content rest e.
    let m = c.loop-others.invariant.told content rest e in
    c.after_byte.ensures.told 34 rest (quoted_end c.loop-others.rest.now rest m.0 c.in_default.ensures.found m.1)
