use Rattle.std.proofs.Common.{T, Some, sym, ap, subst, ◌∙◌}
use Rattle.std.specs.Ordering.{nat_cmp}
use Rattle.std.specs.FinMap as map
use Rattle.std.specs.FinMap.Entries.{is_sorted}
use Rattle.seam_cell_parts.specs.Spots.{located_reals}
use Rattle.seam_cell_parts.proofs.SpotLemmas.{kept_noted, real_list, reals_rise}
use Rattle.seam_cell_parts.proofs.real_table.spots_of.Goals as goal

pub of-requires : goal.of-requires
of-requires c =
    subst (λ l. T (is_sorted nat_cmp l)) (sym (c.deref.ensures.value ∙ c.in_ok-locations.ensures)) (reals_rise c.args.items.now.items)

pub returns : goal.returns
returns c =
    kept_noted c.in_ok-spots.spots.list c.in_ok-spots.spots.out (located_reals c.args.items.now.items) _ (reals_rise c.args.items.now.items)
    (c.in_ok-spots.ensures.list ∙ ap (λ l. Some (map.from_sorted l)) (c.deref.ensures.value ∙ c.in_ok-locations.ensures))
    c.in_ok-spots.ensures.out
    (real_list c.args.items.now.items)
