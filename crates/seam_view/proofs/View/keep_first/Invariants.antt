use Rattle.std.proofs.Common.{◌≡◌, drop, fold}
use Rattle.seam_view.specs.Replica.{HasRoom, after_look}
use Rattle.seam_view.proofs.View.keep_first.Given as goal

abbrev pub invariant-loop-i : goal.invariant-loop-i
invariant-loop-i l = record {
  core : fold (after_look l.known) l.self.core (drop l.i l.looks) ≡ fold (after_look l.known) l.fn.self.core l.fn.looks;
  room : HasRoom l.self (drop l.i l.looks);
}
