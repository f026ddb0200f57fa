use Rattle.std.proofs.Common.{◌≡◌, map, take}
use Rattle.seam_judge_rounds.proofs.origins.are_same_calls.Given as goal

abbrev pub invariant-loop-i : goal.invariant-loop-i
invariant-loop-i l = map (λ x. x.now) (take l.i l.a) ≡ map (λ x. x.now) (take l.i l.b)
