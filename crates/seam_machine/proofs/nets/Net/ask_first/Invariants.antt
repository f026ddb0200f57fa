use Rattle.std.proofs.Common.{◌≡◌, ℕ, ◌<◌, false}
use Rattle.std.specs.Prelude.{slice_get, map, Some}
use Rattle.seam_machine.proofs.nets.Net.ask_first.Given as goal

abbrev pub invariant-loop-k : goal.invariant-loop-k
invariant-loop-k g l = (k : ℕ) → k < l.k → slice_get (map g.M.Machine.has_work l.self.nodes) k ≡ Some false
