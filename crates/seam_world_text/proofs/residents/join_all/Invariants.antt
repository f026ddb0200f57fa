use Rattle.std.proofs.Common.{take}
use Rattle.seam_world_text.specs.Residents.{IsByNumber, Joins}
use Rattle.seam_world_text.proofs.residents.join_all.Given as goal

abbrev pub invariant-loop-e : goal.invariant-loop-e
invariant-loop-e l = record { done : Joins (take l.e-index l.clients) l.initial.residents l.residents; named : IsByNumber l.residents }
