use Rattle.std.proofs.Common.{◌≡◌, subst, OnOk}
use Rattle.std.specs.FinMap as table
use Rattle.seam_node_steps.specs.BaseCases.{unless_stray, sends_none, stray_update, update}
use Rattle.seam_base.specs.Nodes.{node_of}
use Rattle.seam_base.proofs.NodeLemmas.{update_left}
use Rattle.seam_base.proofs.node.Base.hear_update.Goals as goal

pub returns-clause-after : goal.returns-clause-after
returns-clause-after c =
    subst
    (λ b. OnOk c.offer_update.result
    (node_of c.self.inside.known c.self.inside.orders.items c.self.inside.routes.items c.offer_update.new.self
    ≡ (unless_stray (stray_update c.args.update.now (table.get b.parts c.args.update.now.entity)) b
    (sends_none (update b c.args.update.now (table.get b.parts c.args.update.now.entity)))).state)) c.self.view_is
    (update_left (node_of c.self.inside.known c.self.inside.orders.items c.self.inside.routes.items c.self.inside.parts) c.args.update.now
    c.offer_update.result c.offer_update.new.self c.offer_update.ensures.after)
