use Rattle.std.proofs.Common.{◌≡◌, ap, subst, OnOk}
use Rattle.seam_node_steps.specs.Prelude.{attached, Base}
use Rattle.seam_base.specs.Nodes.{node_of}
use Rattle.seam_base.proofs.PartLemmas.{on_ok}
use Rattle.seam_base.proofs.node.Base.attach.Goals as goal

pub returns-clause-after : goal.returns-clause-after
returns-clause-after c =
    subst
    (λ b. OnOk c.attach.result
    (Base (node_of c.self.inside.known c.self.inside.orders.items c.self.inside.routes.items c.attach.new.self)
    ≡ attached c.args.e (Base b))) c.self.view_is
    (on_ok c.attach.result
    (ap (λ m. Base (node_of c.self.inside.known c.self.inside.orders.items c.self.inside.routes.items m)))
    (c.attach.ensures.after c.self.inside.known.me c.self.inside.known.settings))
