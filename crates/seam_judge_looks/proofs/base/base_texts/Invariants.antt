use Rattle.std.proofs.Common.{◌≡◌, take, map}
use Rattle.seam_rule_rounds.specs.ClientLines.{base_shown}
use Rattle.seam_judge_data.specs.Standings.{standing_of}
use Rattle.seam_judge_looks.proofs.base.base_texts.Given as goal

abbrev pub invariant-loop-version : goal.invariant-loop-version
invariant-loop-version l = l.texts.items ≡ map (base_shown l.header (standing_of l.after) l.create) (take l.version-index l.version-items)
