use Rattle.seam_law_slides.proofs.Places.{end_rests, rest_leads}
use Rattle.seam_law_slides.proofs.who_is_not_listed_is_at_rest.Goals as goal

pub returns-clause-kept : goal.returns-clause-kept
returns-clause-kept c = rest_leads

pub returns-clause-ends : goal.returns-clause-ends
returns-clause-ends c = λ f frame space w v es round rest wait run quiet. end_rests f frame space w v es round rest wait run quiet
