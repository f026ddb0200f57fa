use Rattle.std.proofs.Common.{ap}
use Rattle.seam_base.specs.Nodes.{has_call, has_update}
use Rattle.seam_base.proofs.Marks.{same_marks, marked_as_removed}
use Rattle.seam_base.proofs.parts.Parts.remove.Goals as goal

pub invariant_of-self : goal.invariant_of-self
invariant_of-self c = (
  same_marks has_call _ _ _ _ c.remove-2.ensures (ap (λ w. w.items) c.remove.ensures.after)
      (marked_as_removed has_call c.self.inside.calls c.self.inside.items.items c.self.invariant.0 c.args.e),
  same_marks has_update _ _ _ _ c.remove-3.ensures (ap (λ w. w.items) c.remove.ensures.after)
      (marked_as_removed has_update c.self.inside.updates c.self.inside.items.items c.self.invariant.1 c.args.e),
)
