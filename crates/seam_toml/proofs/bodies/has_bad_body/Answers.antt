use Rattle.seam_toml.proofs.AnswerLemmas.{body_answer}
use Rattle.seam_toml.proofs.bodies.has_bad_body.Goals as goal

pub returns : goal.returns
returns c =
    body_answer _ _ _ c.in-Some.part c.in-Some-2.args.items c.in-Some.ensures (rw c.in-Some-2.is at c.in_ok-args.ensures)
    (rw c.deref.ensures.value at c.are_bad_texts.ensures)
