use Rattle.std.proofs.Common.{◌≡◌, ◌++◌, take}
use Rattle.std.specs.List.{flat_map}
use Rattle.seam_rule_rounds.specs.RoundTexts.{client_text}
use Rattle.seam_report.proofs.round.push_clients.Given as goal

abbrev pub invariant-loop-line : goal.invariant-loop-line
invariant-loop-line l = l.out.items ≡ l.initial.out.items ++ flat_map (client_text l.defs) (take l.line-index l.lines)
