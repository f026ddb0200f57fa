use Rattle.std.proofs.Common.{◌≡◌}
use Rattle.seam_node_steps.specs.Loads.{with_orders}
use Rattle.seam_core.proofs.loads.give_all.Given as goal

abbrev pub invariant-loop-to : goal.invariant-loop-to
invariant-loop-to l = l.net ≡ with_orders l.initial.net l.yielded
