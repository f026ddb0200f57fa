use Rattle.seam_judge_rounds.proofs.Told.{RisesBelow}
use Rattle.seam_judge_rounds.proofs.clients.do_rise.Given as goal

abbrev pub invariant-loop-i : goal.invariant-loop-i
invariant-loop-i l = RisesBelow l.numbers l.i
