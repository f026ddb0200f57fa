use Rattle.std.proofs.Common.{cond, Some, sym, ap, ◌∙◌}
use Rattle.std.specs.Ordering.{nat_cmp, eq_by_cmp}
use Rattle.seam_cell_parts.specs.Spots.{location_of_real, real_locations}
use Rattle.seam_cell_parts.proofs.SpotLemmas.{real_set}
use Rattle.seam_cell_parts.proofs.real_table.RealTable.put_reserved.Goals as goal

pub invariant_of-self : goal.invariant_of-self
invariant_of-self c =
    let m = c.self.inside.items.items in
    c.note.ensures (real_locations m) (real_locations c.put_reserved.new.self.items) c.self.invariant
    (λ q. ap (λ w. real_locations w.items q) c.put_reserved.ensures.after
    ∙ (real_set m c.args.e (Some c.args.parcel) q
    ∙ ap (λ p. cond (eq_by_cmp nat_cmp q c.args.e) (Some p) (real_locations m q))
    (sym (c.location_of.ensures ∙ ap location_of_real c.parcel.view_is))))
