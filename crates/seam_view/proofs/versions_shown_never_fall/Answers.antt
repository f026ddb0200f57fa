use Rattle.seam_view.proofs.Kept.{view_after_looks}
use Rattle.seam_view.proofs.Falls.{never_falls_by_one_look}
use Rattle.seam_view.proofs.versions_shown_never_fall.Goals as goal

pub returns-clause-never_fall : goal.returns-clause-never_fall
returns-clause-never_fall c = λ r own known view o. never_falls_by_one_look r own known view o

pub returns-clause-view : goal.returns-clause-view
returns-clause-view c = λ r known looks view. view_after_looks known r looks view
