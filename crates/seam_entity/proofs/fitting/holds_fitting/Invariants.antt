use Rattle.std.proofs.Common.{◌≡◌, ℕ}
use Rattle.std.specs.List.{list_all}
use Rattle.seam_entity.specs.ReadyCalls.{item_passes}
use Rattle.seam_entity.specs.Executing.{fits_cell_part}
use Rattle.seam_entity.specs.Preparing.{node_with}
use Rattle.seam_entity.proofs.fitting.holds_fitting.Given as goal

-- what is left passes exactly where all passes
abbrev pub invariant-loop-call : goal.invariant-loop-call
invariant-loop-call l =
    (me : ℕ) →
    list_all (item_passes (fits_cell_part (node_with l.defs me l.settings) l.entity l.ty)) l.call-iterator
    ≡ list_all (item_passes (fits_cell_part (node_with l.defs me l.settings) l.entity l.ty)) l.order.held
