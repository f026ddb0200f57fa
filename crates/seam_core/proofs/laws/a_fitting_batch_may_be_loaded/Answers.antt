use Rattle.seam_core.proofs.Fitting.{may_load}
use Rattle.seam_core.proofs.laws.a_fitting_batch_may_be_loaded.Goals as goal

pub returns : goal.returns
returns c f clients w keeps b may = may_load f w b keeps.reals keeps.parts may.reals
