use Rattle.std.proofs.Common.{take}
use Rattle.seam_world_text.specs.Residents.{IsByNumber, Removes}
use Rattle.seam_world_text.proofs.residents.remove_all.Given as goal

abbrev pub invariant-loop-e : goal.invariant-loop-e
invariant-loop-e l = record { done : Removes (take l.e-index l.destroys) l.initial.residents l.residents; named : IsByNumber l.residents }
