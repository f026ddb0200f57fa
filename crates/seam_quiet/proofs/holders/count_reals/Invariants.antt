use Rattle.std.proofs.Common.{◌≡◌, ◌+◌, min, take}
use Rattle.seam_node_steps.specs.Prelude.{total, held_at}
use Rattle.seam_quiet.proofs.Counts.{most}
use Rattle.seam_quiet.proofs.holders.count_reals.Given as goal

abbrev pub invariant-loop-k : goal.invariant-loop-k
invariant-loop-k l = l.count ≡ min (0 + total (held_at l.e) (take l.k l.net.nodes)) most
