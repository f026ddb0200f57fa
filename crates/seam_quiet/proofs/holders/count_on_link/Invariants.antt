use Rattle.std.proofs.Common.{◌≡◌, ◌+◌, min, take}
use Rattle.seam_node_steps.specs.Prelude.{link, total, carried}
use Rattle.seam_quiet.proofs.Counts.{most}
use Rattle.seam_quiet.proofs.holders.count_on_link.Given as goal

abbrev pub invariant-loop-i : goal.invariant-loop-i
invariant-loop-i l = l.count ≡ min (l.so_far + total (carried l.e l.to) (take l.i (link l.net.rows l.from l.to))) most
