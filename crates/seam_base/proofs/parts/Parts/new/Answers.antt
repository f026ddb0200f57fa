use Rattle.std.proofs.Common.{ap}
use Rattle.std.specs.FinMap as table
use Rattle.seam_base.specs.Nodes.{has_call, has_update}
use Rattle.seam_base.proofs.Marks.{same_marks, none_marked}
use Rattle.seam_base.proofs.parts.Parts.new.Goals as goal

pub invariant_of-result : goal.invariant_of-result
invariant_of-result c = (
  same_marks has_call table.empty _ table.empty _ c.new-2.ensures (ap (λ w. w.items) c.new.ensures)
      (none_marked _ has_call),
  same_marks has_update table.empty _ table.empty _ c.new-3.ensures (ap (λ w. w.items) c.new.ensures)
      (none_marked _ has_update),
)
