use Rattle.std.proofs.Common.{◌≡◌, take}
use Rattle.seam_defs.proofs.copying.copy_methods.Given as goal

abbrev pub invariant-loop-method : goal.invariant-loop-method
invariant-loop-method l = l.copies.items ≡ take l.method-index l.methods
