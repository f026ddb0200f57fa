use Rattle.seam_toml.proofs.AnswerLemmas.{text_answer}
use Rattle.toml.specs.View.{view}
use Rattle.seam_toml.proofs.bodies.is_bad_text.Goals as goal

pub returns-in_ok-step-in-Some : goal.returns-in_ok-step-in-Some
returns-in_ok-step-in-Some c =
    text_answer _ _ _ (view c.args.value.now) c.in-Some.text.now _ c.in_ok-step-in-Some.step c.in-Some.ensures c.is_none.ensures
    c.in_ok-step-in-Some.ensures
