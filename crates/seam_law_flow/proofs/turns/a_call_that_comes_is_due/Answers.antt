use Rattle.seam_law_flow.proofs.Ends.{never_late, never_held}
use Rattle.seam_law_flow.proofs.turns.a_call_that_comes_is_due.Goals as goal

pub returns-clause-due : goal.returns-clause-due
returns-clause-due g c = λ first batch w p d h a k n u rest at. never_late first batch w p d h a k n u rest at

pub returns-clause-new : goal.returns-clause-new
returns-clause-new g c = λ first batch w p d h a k n u rest at x e. never_held first batch w p d h a k n u rest at x e
