use Rattle.std.proofs.Common.{◌≡◌, take, sym, subst}
use Rattle.seam_node_steps.specs.Prelude.{EachNode, World}
use Rattle.seam_core.specs.Loads.{IsNumbered, HasBases}
use Rattle.seam_core.proofs.Loading.{known_reaped}
use Rattle.seam_core.proofs.loads.reap_all.Goals as goal

pub give_reap-requires-clause-numbered : goal.give_reap-requires-clause-numbered
give_reap-requires-clause-numbered c =
    subst (λ (w : World). EachNode IsNumbered w.nodes) (sym c.loop-e.invariant)
    (known_reaped (λ k h. h.me ≡ k) c.args.net.now (take c.loop-e.e-index c.args.es.now) c.requires.numbered)

pub give_reap-requires-clause-bases : goal.give_reap-requires-clause-bases
give_reap-requires-clause-bases c =
    subst (λ (w : World). EachNode (λ k s. HasBases c.args.bases s) w.nodes) (sym c.loop-e.invariant)
    (known_reaped (λ k h. h.settings.bases ≡ c.args.bases) c.args.net.now (take c.loop-e.e-index c.args.es.now) c.requires.bases)
