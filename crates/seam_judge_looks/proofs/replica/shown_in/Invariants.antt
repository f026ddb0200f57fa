use Rattle.std.proofs.Common.{◌≡◌, take, map}
use Rattle.seam_rule_clients.specs.Clients.{shown_by_lines}
use Rattle.seam_judge_looks.proofs.replica.shown_in.Given as goal

abbrev pub invariant-loop-line : goal.invariant-loop-line
invariant-loop-line l = map (λ x. x.now) l.shown.items ≡ shown_by_lines (map (λ x. x.now) (take l.line-index l.lines))
