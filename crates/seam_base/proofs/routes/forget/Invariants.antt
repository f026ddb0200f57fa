use Rattle.std.proofs.Common.{◌≡◌, take}
use Rattle.seam_node_steps.specs.Loads.{routes_without}
use Rattle.seam_base.proofs.routes.forget.Given as goal

abbrev pub invariant-loop-e : goal.invariant-loop-e
invariant-loop-e l = l.routes.items ≡ routes_without (take l.e-index l.gone) l.initial.routes.items
