use Rattle.std.proofs.Common.{ap, sym, subst}
use Rattle.std.specs.FinMap as table
use Rattle.seam_node_steps.specs.Valid.{RoutesAreCells}
use Rattle.seam_base.proofs.RouteLemmas.{route_put}
use Rattle.seam_base.proofs.node.Base.add_entity.Goals as goal

pub invariant_of-self-2 : goal.invariant_of-self-2
invariant_of-self-2 c = record {
  base = record {
    bases = c.self.invariant.base.bases;
    cells = c.self.invariant.base.cells;
    routes = subst RoutesAreCells (sym (ap (λ w. w.items) c.put_reserved-old.ensures.after))
        (subst (λ m. RoutesAreCells (table.insert m c.args.e (record { cell = c.args.cell; generation = 0 }))) (sym c.reserve.ensures.same)
        (route_put c.self.inside.routes.items c.args.e (record { cell = c.args.cell; generation = 0 }) c.requires
        c.self.invariant.base.routes));
  };
  most = c.self.invariant.most;
}
