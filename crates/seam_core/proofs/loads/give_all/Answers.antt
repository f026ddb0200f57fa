use Rattle.std.proofs.Common.{◌≡◌, sym, subst}
use Rattle.seam_node_steps.specs.Prelude.{EachNode, World}
use Rattle.seam_core.specs.Loads.{IsNumbered}
use Rattle.seam_core.proofs.Loading.{known_ordered}
use Rattle.seam_core.proofs.loads.give_all.Goals as goal

pub give-requires : goal.give-requires
give-requires c =
    subst (λ (w : World). EachNode IsNumbered w.nodes) (sym c.loop-to.invariant)
    (known_ordered (λ k h. h.me ≡ k) c.args.net.now c.loop-to.yielded c.requires)
