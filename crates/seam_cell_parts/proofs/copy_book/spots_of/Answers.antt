use Rattle.std.proofs.Common.{T, Some, sym, ap, subst, ◌∙◌}
use Rattle.std.specs.Ordering.{nat_cmp}
use Rattle.std.specs.FinMap as map
use Rattle.std.specs.FinMap.Entries.{is_sorted}
use Rattle.seam_cell_parts.specs.Spots.{located_copies}
use Rattle.seam_cell_parts.proofs.SpotLemmas.{kept_noted, copy_list, copies_list_rise}
use Rattle.seam_cell_parts.proofs.copy_book.spots_of.Goals as goal

pub of-requires : goal.of-requires
of-requires c =
    subst (λ l. T (is_sorted nat_cmp l)) (sym (c.deref.ensures.value ∙ c.in_ok-locations.ensures)) (copies_list_rise c.args.book.now.ghosts)

pub returns : goal.returns
returns c =
    kept_noted c.in_ok-spots.spots.list c.in_ok-spots.spots.out (located_copies c.args.book.now.ghosts) _
    (copies_list_rise c.args.book.now.ghosts)
    (c.in_ok-spots.ensures.list ∙ ap (λ l. Some (map.from_sorted l)) (c.deref.ensures.value ∙ c.in_ok-locations.ensures))
    c.in_ok-spots.ensures.out
    (copy_list c.args.book.now.ghosts)
