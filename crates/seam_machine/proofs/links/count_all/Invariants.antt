use Rattle.std.proofs.Common.{◌≡◌, ℕ, ◌<◌, length}
use Rattle.std.specs.Prelude.{slice_index}
use Rattle.seam_machine.specs.Inside.{filled_to}
use Rattle.seam_machine.proofs.links.count_all.Given as goal

abbrev pub invariant-loop-b : goal.invariant-loop-b
invariant-loop-b g l = record {
  so_far : length l.busy.items ≡ l.b;
  counts : (k : ℕ) → k < l.b → slice_index l.busy.items k ≡ filled_to k l.rows.items;
}
