use Rattle.std.specs.List.{AllWithin}
use Rattle.seam_entity.specs.Covers.{IsCellMethod}
use Rattle.seam_entity.proofs.cover.are_cell_methods.Given as goal

-- the type has each of the methods so far
abbrev pub invariant-loop-entry : goal.invariant-loop-entry
invariant-loop-entry l = AllWithin (IsCellMethod l.t) l.methods 0 l.entry-index
