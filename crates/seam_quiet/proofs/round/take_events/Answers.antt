use Rattle.seam_net_runs.proofs.Runs.{leads_join}
use Rattle.seam_node_steps.specs.Nodes.{node_steps, node_has_work}
use Rattle.seam_quiet.proofs.round.take_events.Goals as goal

pub returns-clause-run : goal.returns-clause-run
returns-clause-run g c =
    rw c.in_ok-append.ensures.items
    (leads_join node_has_work node_steps c.args.net c.in_ok-net.net c.in_ok-net-2.net c.in_ok-net.events.items c.in_ok-net-2.theirs.items
    c.in_ok-net.ensures.run c.in_ok-net-2.ensures.run)
