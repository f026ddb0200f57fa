use Rattle.std.proofs.Common.{◌≡◌, ℕ, drop}
use Rattle.std.specs.List.{list_all}
use Rattle.seam_entity.specs.Executing.{fits_cell_part}
use Rattle.seam_entity.specs.Preparing.{node_with}
use Rattle.seam_entity.proofs.ReadyLemmas.{entry_passes}
use Rattle.seam_entity.proofs.orders.all_fit.Given as goal

-- what is left passes exactly where all passes
abbrev pub invariant-loop-entry : goal.invariant-loop-entry
invariant-loop-entry l =
    (me : ℕ) →
    list_all (entry_passes (fits_cell_part (node_with l.defs me l.settings) l.entity l.ty)) (drop l.entry-index l.entries)
    ≡ list_all (entry_passes (fits_cell_part (node_with l.defs me l.settings) l.entity l.ty)) l.entries
