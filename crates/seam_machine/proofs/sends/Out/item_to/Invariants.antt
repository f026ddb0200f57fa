use Rattle.std.proofs.Common.{◌≡◌, ◌≤◌, length, take}
use Rattle.seam_machine.specs.Sends.{items_to}
use Rattle.seam_machine.proofs.sends.Out.item_to.Given as goal

abbrev pub invariant-loop-k : goal.invariant-loop-k
invariant-loop-k g l = record {
  so_far : l.n ≡ length (items_to l.to (take l.k l.self.items));
  few : l.n ≤ l.k;
  not_yet : l.n ≤ l.i;
}
