use Rattle.seam_view.proofs.Only.{looks_agree, kept_agree}
use Rattle.seam_view.proofs.only_near_matters.Goals as goal

pub returns-clause-looks : goal.returns-clause-looks
returns-clause-looks c = λ r own known other same. looks_agree r own known other same

pub returns-clause-kept : goal.returns-clause-kept
returns-clause-kept c = λ r own known other rises others same. kept_agree r own known other same rises others
