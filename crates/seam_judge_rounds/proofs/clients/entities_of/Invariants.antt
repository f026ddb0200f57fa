use Rattle.std.proofs.Common.{◌≡◌, take, map}
use Rattle.seam_judge_rounds.proofs.clients.entities_of.Given as goal

abbrev pub invariant-loop-line : goal.invariant-loop-line
invariant-loop-line l = l.entities.items ≡ map (λ x. x.entity) (take l.line-index l.lines)
