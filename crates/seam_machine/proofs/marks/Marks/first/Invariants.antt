use Rattle.std.proofs.Common.{◌≡◌, ℕ, ◌*◌, ◌<◌, false}
use Rattle.seam_machine.specs.Inside.{is_marked}
use Rattle.seam_machine.proofs.marks.Marks.first.Given as goal

abbrev pub invariant-loop-i : goal.invariant-loop-i
invariant-loop-i l = (j : ℕ) → j < 64 * l.i → is_marked l.self.words j ≡ false
