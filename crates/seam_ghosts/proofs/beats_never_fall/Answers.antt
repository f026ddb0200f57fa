use Rattle.seam_ghosts.proofs.Messages.{beats_never_fall, greatest_beat, newest_copy, others_stay, entry_after}
use Rattle.seam_ghosts.proofs.beats_never_fall.Goals as goal

pub returns-clause-never_fall : goal.returns-clause-never_fall
returns-clause-never_fall g c = λ w e x q. beats_never_fall w e x q

pub returns-clause-greatest : goal.returns-clause-greatest
returns-clause-greatest g c = λ w e x. greatest_beat w e x

pub returns-clause-newest : goal.returns-clause-newest
returns-clause-newest g c = λ w e x. newest_copy w e x

pub returns-clause-others : goal.returns-clause-others
returns-clause-others g c = λ w e x q n. others_stay w e x q n

pub returns-clause-entry : goal.returns-clause-entry
returns-clause-entry g c = λ w e x. entry_after w e x
