use Rattle.seam_law_bounds.proofs.ReapPhase.{reaps_end, still_none}
use Rattle.seam_law_bounds.proofs.measure.reaps_end.Goals as goal

pub returns-clause-bound : goal.returns-clause-bound
returns-clause-bound c = λ f u between none es may vs v run. reaps_end f u between none es may vs v run

pub returns-clause-nothing : goal.returns-clause-nothing
returns-clause-nothing c = λ f u between none es may vs v run. still_none f u between none es may vs v run
