use Rattle.std.proofs.Common.{◌≡◌, take, map}
use Rattle.seam_rule_rounds.specs.Round.{home_line}
use Rattle.seam_judge_data.specs.Standings.{standing_of}
use Rattle.seam_judge_expected.proofs.lines.homes_of.Given as goal

abbrev pub invariant-loop-create : goal.invariant-loop-create
invariant-loop-create l = l.homes.items ≡ map (home_line l.header (standing_of l.after)) (take l.create-index l.live)
