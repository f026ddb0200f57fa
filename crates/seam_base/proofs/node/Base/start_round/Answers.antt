use Rattle.std.proofs.Common.{sym, subst}
use Rattle.seam_node_steps.specs.Valid.{RoutesAreCells}
use Rattle.seam_base.proofs.RouteLemmas.{left_are_cells}
use Rattle.seam_base.proofs.node.Base.start_round.Goals as goal

pub invariant_of-self : goal.invariant_of-self
invariant_of-self c = record {
  base = record {
    bases = c.self.invariant.base.bases;
    cells = c.requires;
    routes = subst RoutesAreCells (sym c.forget.ensures)
        (left_are_cells c.as_slice.result.now c.self.inside.routes.items c.self.invariant.base.routes);
  };
  most = c.self.invariant.most;
}
