use Rattle.std.proofs.Common.{◌≡◌, take}
use Rattle.seam_rule_rounds.specs.FlatTable.{rows_of}
use Rattle.seam_judge_data.specs.Standings.{standing_of}
use Rattle.seam_judge_looks.proofs.rows.rows_of.Given as goal

abbrev pub invariant-loop-create : goal.invariant-loop-create
invariant-loop-create l = l.rows.items ≡ rows_of l.header (standing_of l.after).orders (take l.create-index l.live)
