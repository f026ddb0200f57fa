use Rattle.seam_law_ghosts.proofs.Begun.{listed, was_begins, each_begins}
use Rattle.seam_law_ghosts.proofs.places.a_load_begins_at_former_places.Goals as goal

pub returns-clause-kept : goal.returns-clause-kept
returns-clause-kept c = was_begins

pub returns-clause-made : goal.returns-clause-made
returns-clause-made c = each_begins

pub returns-clause-due : goal.returns-clause-due
returns-clause-due c = λ w b e k r. listed e w b k r
