use Rattle.std.proofs.Common.{◌≡◌, take}
use Rattle.seam_rule_clients.specs.Looks.{rows_but}
use Rattle.seam_judge_looks.proofs.rows.rows_but.Given as goal

abbrev pub invariant-loop-row : goal.invariant-loop-row
invariant-loop-row l = l.others.items ≡ rows_but l.entity (take l.row-index l.rows)
