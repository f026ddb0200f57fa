use Rattle.std.proofs.Common.{◌≡◌, take}
use Rattle.std.specs.List.{filter_map}
use Rattle.seam_judge_looks.specs.Replicas.{client_of}
use Rattle.seam_judge_looks.specs.LookParts.{enter_of}
use Rattle.seam_judge_looks.proofs.replica.Replica.enters.Given as goal

abbrev pub invariant-loop-row : goal.invariant-loop-row
invariant-loop-row l = l.lines.items ≡ filter_map (enter_of (client_of l.self) l.own l.others) (take l.row-index l.others)
