use Rattle.std.proofs.Common.{◌≡◌, ◌≤◌, length, take}
use Rattle.seam_machine.specs.Sends.{items_to}
use Rattle.seam_machine.proofs.sends.Out.count_to.Given as goal

abbrev pub invariant-loop-i : goal.invariant-loop-i
invariant-loop-i g l = record {
  so_far : l.n ≡ length (items_to l.to (take l.i l.self.items));
  few : l.n ≤ l.i;
}
