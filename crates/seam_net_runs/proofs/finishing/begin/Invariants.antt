use Rattle.std.proofs.Common.{◌≡◌, length}
use Rattle.seam_machine.specs.Nets.{ArePeers, LeadsTo}
use Rattle.seam_net_runs.proofs.finishing.begin.Given as goal

abbrev pub invariant-loop-turn : goal.invariant-loop-turn
invariant-loop-turn g l =
    LeadsTo g.M.Machine.has_work g.M.Machine.steps l.fn.net l.events.items l.net × ArePeers g.M.Machine.peer_count l.net
    × (length l.events.items ≡ l._turn)
