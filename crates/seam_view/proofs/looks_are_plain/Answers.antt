use Rattle.seam_view.proofs.PlainLooks.{look_is_plain}
use Rattle.seam_view.proofs.looks_are_plain.Goals as goal

pub returns : goal.returns
returns c = λ r own known view fresh. look_is_plain r own known fresh view
