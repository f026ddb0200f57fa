use Rattle.std.proofs.Common.{◌≡◌, ℕ, ◌<◌, ◌≤◌, false}
use Rattle.std.specs.Prelude.{slice_get}
use Rattle.seam_machine.specs.Inside.{is_marked, has_task}
use Rattle.seam_machine.proofs.nets.ask_all.Given as goal

abbrev pub invariant-loop-k : goal.invariant-loop-k
invariant-loop-k g l = record {
  asked : (k : ℕ) → k < l.k → is_marked l.tasks.words k ≡ has_task g.M.Machine.has_work (slice_get l.nodes.items k);
  others : (k : ℕ) → l.k ≤ k → is_marked l.tasks.words k ≡ false;
}
