use Rattle.std.proofs.Common.{◌≤◌, length}
use Rattle.seam_machine.specs.Nets.{ArePeers, LeadsTo}
use Rattle.seam_workers.proofs.alone.alone.Given as goal

abbrev pub invariant-loop-turn : goal.invariant-loop-turn
invariant-loop-turn g l =
    LeadsTo g.M.Machine.has_work g.M.Machine.steps l.fn.net l.events.items l.net × ArePeers g.M.Machine.peer_count l.net
    × (l._turn ≤ length l.events.items)
