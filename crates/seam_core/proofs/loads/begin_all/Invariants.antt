use Rattle.std.proofs.Common.{◌≡◌}
use Rattle.seam_core.specs.Begun.{begun}
use Rattle.seam_core.proofs.Loading.{partly}
use Rattle.seam_core.proofs.loads.begin_all.Given as goal

abbrev pub invariant-loop-k : goal.invariant-loop-k
invariant-loop-k l = l.net ≡ partly (begun l.batch) l.k l.initial.net
