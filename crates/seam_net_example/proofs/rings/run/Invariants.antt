use Rattle.seam_machine.specs.Nets.{ArePeers}
use Rattle.seam_net_example.proofs.rings.run.Given as goal

abbrev pub invariant-loop-count : goal.invariant-loop-count
invariant-loop-count g l = ArePeers g.M.Machine.peer_count l.net
