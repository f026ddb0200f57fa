use Rattle.std.proofs.Common.{◌≡◌}
use Rattle.seam_node_steps.specs.Prelude.{noted}
use Rattle.seam_core.proofs.Loading.{partly}
use Rattle.seam_core.proofs.loads.note_all.Given as goal

abbrev pub invariant-loop-k : goal.invariant-loop-k
invariant-loop-k l = l.net ≡ partly (noted l.e) l.k l.initial.net
