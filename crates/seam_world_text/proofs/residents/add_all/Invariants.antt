use Rattle.std.proofs.Common.{take}
use Rattle.seam_world_text.specs.Residents.{IsByNumber, Adds}
use Rattle.seam_world_text.proofs.residents.add_all.Given as goal

abbrev pub invariant-loop-create : goal.invariant-loop-create
invariant-loop-create l = record {
  done : Adds (take l.create-index l.creates) l.initial.residents l.residents;
  named : IsByNumber l.residents;
}
