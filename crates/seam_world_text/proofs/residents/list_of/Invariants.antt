use Rattle.std.proofs.Common.{◌≡◌, ◌++◌, map}
use Rattle.std.specs.BTreeMap.{values}
use Rattle.seam_world_text.proofs.residents.list_of.Given as goal

abbrev pub invariant-loop-resident : goal.invariant-loop-resident
invariant-loop-resident l = l.list.items ++ map (λ e. e.1) l.resident-iterator ≡ values l.residents
