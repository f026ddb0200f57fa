use Rattle.std.proofs.Common.{◌≡◌, take}
use Rattle.seam_node_steps.specs.Loads.{attached}
use Rattle.seam_law_rounds.specs.Loaded.{each}
use Rattle.seam_core.proofs.node.Node.attach_all.Given as goal

abbrev pub invariant-loop-e : goal.invariant-loop-e
invariant-loop-e l = l.self ≡ each attached (take l.e-index l.clients) l.initial.self
