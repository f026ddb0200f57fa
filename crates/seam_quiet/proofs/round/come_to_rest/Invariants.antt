use Rattle.std.proofs.Common.{◌-◌, length}
use Rattle.seam_node_steps.specs.Prelude.{ArePeers, LeadsTo, node_steps, node_has_work, node_peers}
use Rattle.seam_quiet.proofs.round.come_to_rest.Given as goal

abbrev pub invariant-loop-event : goal.invariant-loop-event
invariant-loop-event g l = record {
  leads : LeadsTo node_has_work node_steps l.fn.net l.events.items l.net;
  peers : ArePeers node_peers l.net;
}

abbrev pub decreases-loop-event : goal.decreases-loop-event
decreases-loop-event g l = g.most - length l.events.items
