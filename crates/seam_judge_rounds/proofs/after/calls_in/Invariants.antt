use Rattle.std.proofs.Common.{◌≡◌, take, map}
use Rattle.seam_judge_rounds.proofs.after.calls_in.Given as goal

abbrev pub invariant-loop-line : goal.invariant-loop-line
invariant-loop-line l = l.calls.items ≡ map (λ x. x.call) (take l.line-index l.lines)
