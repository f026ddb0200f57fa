use Rattle.std.proofs.Common.{◌≡◌, ◌≤◌, take}
use Rattle.seam_machine.specs.Inside.{filled_to}
use Rattle.seam_machine.proofs.links.count_filled.Given as goal

abbrev pub invariant-loop-i : goal.invariant-loop-i
invariant-loop-i g l = record {
  so_far : l.n ≡ filled_to l.to (take l.i l.rows.items);
  few : l.n ≤ l.i;
}
