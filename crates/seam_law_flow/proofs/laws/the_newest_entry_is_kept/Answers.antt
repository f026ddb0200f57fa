use Rattle.seam_law_flow.proofs.NewestLemmas.{newest_stays, newest_rises, newest_rests}
use Rattle.seam_law_flow.proofs.laws.the_newest_entry_is_kept.Goals as goal

pub returns-clause-stays : goal.returns-clause-stays
returns-clause-stays g c = λ entry brings w v m k key d n keeps new. newest_stays brings entry m k key d n keeps new

pub returns-clause-rises : goal.returns-clause-rises
returns-clause-rises g c =
    λ entry brings w v m k key next d f n lt here new there. newest_rises brings entry m k key next d f n lt here new there

pub returns-clause-rests : goal.returns-clause-rests
returns-clause-rests g c = λ entry brings w k key d n empty. newest_rests brings entry w k key d n empty
