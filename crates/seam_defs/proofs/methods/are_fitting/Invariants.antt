use Rattle.seam_defs.specs.Fitting.{ArgsFitBelow}
use Rattle.seam_defs.proofs.methods.are_fitting.Given as goal

abbrev pub invariant-loop-i : goal.invariant-loop-i
invariant-loop-i l = ArgsFitBelow l.types l.values l.i
