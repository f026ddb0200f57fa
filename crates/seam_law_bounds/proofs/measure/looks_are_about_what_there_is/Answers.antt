use Rattle.seam_law_bounds.proofs.Among.{always_among}
use Rattle.seam_law_bounds.proofs.LookCounts.{looks_fit}
use Rattle.seam_law_bounds.proofs.LookStarts.{reaps_always_among}
use Rattle.seam_law_bounds.proofs.measure.looks_are_about_what_there_is.Goals as goal

pub returns-clause-few : goal.returns-clause-few
returns-clause-few c = looks_fit

pub returns-clause-kept : goal.returns-clause-kept
returns-clause-kept c = always_among

pub returns-clause-reaps : goal.returns-clause-reaps
returns-clause-reaps c = reaps_always_among
