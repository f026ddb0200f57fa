use Rattle.std.proofs.Common.{◌≡◌, take}
use Rattle.seam_node_steps.specs.Loads.{reaps_loaded}
use Rattle.seam_core.proofs.loads.reap_all.Given as goal

abbrev pub invariant-loop-e : goal.invariant-loop-e
invariant-loop-e l = l.net ≡ reaps_loaded l.initial.net (take l.e-index l.es)
