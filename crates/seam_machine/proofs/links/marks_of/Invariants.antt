use Rattle.std.proofs.Common.{◌≡◌, ℕ, ◌<◌, ◌≤◌, get_or, false}
use Rattle.std.specs.Prelude.{nat_lt}
use Rattle.seam_machine.specs.Inside.{is_marked}
use Rattle.seam_machine.proofs.links.marks_of.Given as goal

abbrev pub invariant-loop-k : goal.invariant-loop-k
invariant-loop-k l = record {
  looked : (k : ℕ) → k < l.k → is_marked l.marks.words k ≡ nat_lt 0 (get_or l.busy.items k 0);
  others : (k : ℕ) → l.k ≤ k → is_marked l.marks.words k ≡ false;
}
