use Rattle.std.proofs.Common.{◌≡◌, take, map}
use Rattle.seam_judge_rounds.proofs.clients.numbers_of.Given as goal

abbrev pub invariant-loop-line : goal.invariant-loop-line
invariant-loop-line l = l.numbers.items ≡ map (λ x. x.number) (map (λ x. x.now) (take l.line-index l.lines))
