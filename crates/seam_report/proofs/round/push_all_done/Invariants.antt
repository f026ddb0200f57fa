use Rattle.std.proofs.Common.{◌≡◌, ◌++◌, take}
use Rattle.std.specs.List.{flat_map}
use Rattle.seam_rule_lines.specs.LineTexts.{done_text}
use Rattle.seam_report.proofs.round.push_all_done.Given as goal

abbrev pub invariant-loop-line : goal.invariant-loop-line
invariant-loop-line l = l.out.items ≡ l.initial.out.items ++ flat_map (done_text l.word l.defs) (take l.line-index l.lines)
