use Rattle.std.proofs.Common.{◌≡◌, IfOk, subst}
use Rattle.seam_call.specs.declared.shown.GhostCopy.{GhostCopy}
use Rattle.seam_entity.specs.Executing.{copy_with, copy_of_real}
use Rattle.seam_entity.specs.Preparing.{node_with}
use Rattle.seam_entity.proofs.real.Real.copy_out.Goals as goal

pub returns : goal.returns
returns c me settings =
    let h = node_with c.args.defs.now me settings in
    let Is : GhostCopy → Type 0 = λ made. IfOk c.ghost_copy.result (λ x. x ≡ made) in
    subst (λ r. Is (copy_of_real h r.core)) c.self.view_is
    (subst Is (λ i. copy_with h (c.deref.ensures i).ty (c.deref-2.ensures i).public_version
    (record { pos = (c.deref-3.ensures i).state.pos; props = (c.deref-4.ensures i).state.props }))
    (c.ghost_copy.ensures me settings))
