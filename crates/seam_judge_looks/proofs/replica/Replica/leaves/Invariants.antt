use Rattle.std.proofs.Common.{◌≡◌, take}
use Rattle.std.specs.List.{filter_map}
use Rattle.seam_judge_looks.specs.Replicas.{client_of}
use Rattle.seam_judge_looks.specs.LookParts.{leave_of}
use Rattle.seam_judge_looks.proofs.replica.Replica.leaves.Given as goal

abbrev pub invariant-loop-entry : goal.invariant-loop-entry
invariant-loop-entry l = l.lines.items ≡ filter_map (leave_of (client_of l.self) l.own l.others) (take l.entry-index l.entries)
