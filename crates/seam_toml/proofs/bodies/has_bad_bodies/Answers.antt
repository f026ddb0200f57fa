use Rattle.seam_toml.proofs.AnswerLemmas.{bodies_answer}
use Rattle.seam_toml.proofs.bodies.has_bad_bodies.Goals as goal

pub returns-in-Some : goal.returns-in-Some
returns-in-Some c =
    bodies_answer _ _ c.in-Some.properties.items (rw c.in-Some.is at c.in_ok-properties.ensures.defines)
    (rw c.deref.ensures.value at c.are_bad_methods.ensures)
