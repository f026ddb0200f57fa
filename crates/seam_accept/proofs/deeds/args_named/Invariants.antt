use Rattle.seam_accept.proofs.ArgLemmas.{SpellFirst}
use Rattle.seam_accept.proofs.deeds.args_named.Given as goal

abbrev pub invariant-loop-i : goal.invariant-loop-i
invariant-loop-i l = SpellFirst l.types l.arguments l.i l.values.items
