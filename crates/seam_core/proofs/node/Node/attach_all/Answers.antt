use Rattle.std.proofs.Common.{get_or, sym, subst, arith}
use Rattle.seam_node_steps.specs.Nodes.{NodeView}
use Rattle.seam_core.proofs.Nodes.{IsUnseen, unseen_at}
use Rattle.seam_core.proofs.node.Node.attach_all.Goals as goal

pub attach-requires : goal.attach-requires
attach-requires c =
    let es = c.args.clients.now in
    let i = c.loop-e.e-index in
    subst (λ (s : NodeView). IsUnseen s (get_or es i 0)) (sym c.loop-e.invariant)
    (unseen_at es c.args.self.now c.requires.unseen c.requires.one_each i 0 (omega arith))
