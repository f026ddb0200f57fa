use Rattle.std.proofs.Common.{◌≡◌, ◌++◌}
use Rattle.seam_report.proofs.Numbered.{text_below}
use Rattle.seam_report.proofs.bounds.push_bounds.Given as goal

abbrev pub invariant-loop-number : goal.invariant-loop-number
invariant-loop-number l = l.out.items ≡ l.initial.out.items ++ text_below l.tree l.number
