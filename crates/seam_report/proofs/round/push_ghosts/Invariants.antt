use Rattle.std.proofs.Common.{◌≡◌, ◌++◌, take}
use Rattle.std.specs.List.{flat_map}
use Rattle.seam_rule_rounds.specs.RoundTexts.{ghost_text}
use Rattle.seam_report.proofs.round.push_ghosts.Given as goal

abbrev pub invariant-loop-line : goal.invariant-loop-line
invariant-loop-line l = l.out.items ≡ l.initial.out.items ++ flat_map ghost_text (take l.line-index l.lines)
