use Rattle.std.proofs.Common.{ap, sym, ◌∙◌}
use Rattle.seam_base.specs.Nodes.{has_call, has_update}
use Rattle.seam_base.specs.Marks.{marked}
use Rattle.seam_base.proofs.Marks.{same_marks, marked_as_put}
use Rattle.seam_base.proofs.parts.Parts.put_new.Goals as goal

pub invariant_of-self-2 : goal.invariant_of-self-2
invariant_of-self-2 c = (
  same_marks has_call _ _ _ _
      (c.remove.ensures ∙ sym (ap (λ b. marked b c.self.inside.calls c.args.e tt) c.requires.no_call))
      (ap (λ w. w.items) c.in_ok-_old.ensures.after)
      (marked_as_put has_call c.self.inside.calls c.self.inside.items.items c.self.invariant.0 c.args.e c.args.part tt),
  same_marks has_update _ _ _ _
      (c.remove-2.ensures ∙ sym (ap (λ b. marked b c.self.inside.updates c.args.e tt) c.requires.no_update))
      (ap (λ w. w.items) c.in_ok-_old.ensures.after)
      (marked_as_put has_update c.self.inside.updates c.self.inside.items.items c.self.invariant.1 c.args.e c.args.part tt),
)
