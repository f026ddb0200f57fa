use Rattle.std.proofs.Common.{refl, sym, subst}
use Rattle.seam_node_steps.specs.Nodes.{node_steps, node_has_work}
use Rattle.seam_net_runs.specs.Finishing.{EndsWithin}
use Rattle.seam_core.specs.Worlds.{Leads}
use Rattle.seam_quiet.proofs.round.end_calls.Goals as goal

-- what a node can begin does not depend on what is destroyed
pub load-requires : goal.load-requires
load-requires g c = λ k s at.
    let can = c.requires.1.1.1.1.0 k s at in record {
      space = can.space;
      inside = can.inside;
      new = can.new;
      once = can.once;
      unseen = can.unseen;
      one_each = can.one_each;
    }

pub run_phase-requires : goal.run_phase-requires
run_phase-requires g c κs within = (
  within.0,
  (
    within.1,
    (
      c.requires.1.1.0,
      (
        c.requires.1.1.1.0,
        subst (λ w. EndsWithin node_has_work node_steps w g.most) (sym c.in_ok-load.ensures.loaded) c.requires.1.1.1.1.1,
      ),
    ),
  ),
)

pub returns : goal.returns
returns g c =
    let called = c.in_ok-world.world in
    let es = c.in_ok-world.events in
    let begun = c.in_ok-load.ensures.loaded in
    record {
      leads = subst (λ w. Leads w es called) begun c.in_ok-world.ensures.run;
      quiet = c.in_ok-world.ensures.quiet;
      destroys = refl;
    }
