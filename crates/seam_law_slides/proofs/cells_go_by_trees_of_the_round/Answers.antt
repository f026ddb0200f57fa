use Rattle.seam_law_slides.proofs.Rounds.{plain_round, round_leads}
use Rattle.seam_law_slides.proofs.cells_go_by_trees_of_the_round.Goals as goal

pub returns-clause-kept : goal.returns-clause-kept
returns-clause-kept c = round_leads

pub returns-clause-alone : goal.returns-clause-alone
returns-clause-alone c = λ f w alone is. plain_round f alone w is
