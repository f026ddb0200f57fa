use Rattle.std.proofs.Common.{◌≡◌, take}
use Rattle.std.specs.List.{flat_map}
use Rattle.seam_rule_rounds.specs.Round.{ghost_lines}
use Rattle.seam_judge_data.specs.Standings.{standing_of}
use Rattle.seam_judge_expected.proofs.lines.ghosts_of.Given as goal

abbrev pub invariant-loop-create : goal.invariant-loop-create
invariant-loop-create l = l.ghosts.items ≡ flat_map (ghost_lines l.header l.tree (standing_of l.after)) (take l.create-index l.live)
