use Rattle.seam_law_ghosts.proofs.Rounding.{true_then, later_each, hushed_each}
use Rattle.seam_law_ghosts.proofs.newest.ghosts_of_a_round_are_true.Goals as goal

pub returns-clause-true_copies : goal.returns-clause-true_copies
returns-clause-true_copies c = true_then

pub returns-clause-versions : goal.returns-clause-versions
returns-clause-versions c = later_each

pub returns-clause-hushed : goal.returns-clause-hushed
returns-clause-hushed c = hushed_each
