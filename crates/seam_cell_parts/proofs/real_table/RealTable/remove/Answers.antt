use Rattle.std.proofs.Common.{None, ap, ◌∙◌}
use Rattle.seam_cell_parts.specs.Spots.{real_locations}
use Rattle.seam_cell_parts.proofs.SpotLemmas.{real_set}
use Rattle.seam_cell_parts.proofs.real_table.RealTable.remove.Goals as goal

pub invariant_of-self : goal.invariant_of-self
invariant_of-self c =
    let m = c.self.inside.items.items in
    c.forget.ensures (real_locations m) (real_locations c.remove.new.self.items) c.self.invariant
    (λ q. ap (λ w. real_locations w.items q) c.remove.ensures.after ∙ real_set m c.args.e None q)
