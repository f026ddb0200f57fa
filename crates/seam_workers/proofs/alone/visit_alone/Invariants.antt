use Rattle.std.proofs.Common.{◌<◌, length}
use Rattle.seam_machine.specs.Views.{NetView}
use Rattle.seam_machine.specs.Nets.{ArePeers, LeadsTo}
use Rattle.seam_workers.proofs.alone.visit_alone.Given as goal

abbrev pub invariant-loop-step : goal.invariant-loop-step
invariant-loop-step g l = record {
  peers : ArePeers g.M.Machine.peer_count l.net;
  run : (w : NetView _ _) → LeadsTo g.M.Machine.has_work g.M.Machine.steps w l.fn.events.items l.fn.net →
      LeadsTo g.M.Machine.has_work g.M.Machine.steps w l.events.items l.net;
  more : length l.fn.events.items < length l.events.items;
}
