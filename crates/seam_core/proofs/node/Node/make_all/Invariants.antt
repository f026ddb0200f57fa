use Rattle.std.proofs.Common.{◌≡◌, take}
use Rattle.seam_node_steps.specs.Loads.{created_at}
use Rattle.seam_law_rounds.specs.Loaded.{each}
use Rattle.seam_core.proofs.node.Node.make_all.Given as goal

abbrev pub invariant-loop-x : goal.invariant-loop-x
invariant-loop-x l = l.self ≡ each (created_at l.tree) (take l.x-index l.creates) l.initial.self
