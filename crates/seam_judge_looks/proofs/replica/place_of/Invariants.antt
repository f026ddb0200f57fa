use Rattle.seam_judge_looks.specs.Replicas.{IsNotBefore}
use Rattle.seam_judge_looks.proofs.replica.place_of.Given as goal

abbrev pub invariant-loop-i : goal.invariant-loop-i
invariant-loop-i l = IsNotBefore l.entity l.entries l.i
