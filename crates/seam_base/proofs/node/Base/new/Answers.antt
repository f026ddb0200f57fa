use Rattle.std.proofs.Common.{ap, sym, subst, arith}
use Rattle.seam_node_steps.specs.Valid.{RoutesAreCells}
use Rattle.seam_base.proofs.RouteLemmas.{no_routes}
use Rattle.seam_base.proofs.node.Base.new.Goals as goal

pub invariant_of-result : goal.invariant_of-result
invariant_of-result c = record {
  base = record {
    bases = c.requires.bases;
    cells = omega arith;
    routes = subst RoutesAreCells (sym (ap (λ w. w.items) c.new-3.ensures)) no_routes;
  };
  most = c.requires.most;
}
