use Rattle.std.proofs.Common.{ap, sym, ◌∙◌, subst}
use Rattle.std.specs.FinMap as table
use Rattle.seam_node_steps.specs.BaseCases.{current, sends_none, stray_current, unless_stray}
use Rattle.seam_node_steps.specs.Valid.{RoutesAreCells}
use Rattle.seam_base.specs.Nodes.{node_of}
use Rattle.seam_base.proofs.RouteLemmas.{renewed_are_cells, node_renewed}
use Rattle.seam_base.proofs.node.Base.hear_current.Goals as goal

pub invariant_of-self-2 : goal.invariant_of-self-2
invariant_of-self-2 c = record {
  base = record {
    bases = c.self.invariant.base.bases;
    cells = c.self.invariant.base.cells;
    routes = subst (λ r. RoutesAreCells (table.insert c.self.inside.routes.items c.args.e r)) (sym c.renew.ensures)
        (renewed_are_cells c.self.inside.routes.items c.args.e c.in-Some.route.now c.args.new c.in-Some.ensures.item
        c.self.invariant.base.routes);
  };
  most = c.self.invariant.most;
}

pub returns : goal.returns
returns c =
    let node = node_of c.self.inside.known c.self.inside.orders.items in
    ap (λ r. node (table.insert c.self.inside.routes.items c.args.e r) c.self.inside.parts) c.renew.ensures
    ∙ node_renewed (node c.self.inside.routes.items c.self.inside.parts) c.args.e c.in-Some.route.now c.args.new c.in-Some.ensures.item
    ∙ ap (λ b. (unless_stray (stray_current c.args.new (table.get b.routes c.args.e)) b
    (sends_none (current b c.args.e c.args.new (table.get b.routes c.args.e)))).state) c.self.view_is
