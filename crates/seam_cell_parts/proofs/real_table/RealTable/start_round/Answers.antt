use Rattle.std.proofs.Common.{rules, sym, ap, subst, ◌∙◌}
use Rattle.seam_entity.specs.Executing.{real_begins}
use Rattle.seam_cell_parts.specs.Spots.{AreKeptNoted, real_locations}
use Rattle.seam_cell_parts.proofs.SpotLemmas.{reals_stay}
use Rattle.seam_cell_parts.proofs.real_table.RealTable.start_round.Goals as goal

pub invariant_of-self : goal.invariant_of-self
invariant_of-self c =
    subst (AreKeptNoted c.self.inside.spots)
    (sym (ap (λ w. real_locations w.items) (c.change_each.ensures.after real_begins (search rules)) ∙ reals_stay c.self.inside.items))
    c.self.invariant
