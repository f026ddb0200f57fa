use Rattle.std.proofs.Common.{ap, ◌∙◌}
use Rattle.std.specs.FinMap as map
use Rattle.std.proofs.lemmas.List.Sorted.{IsNonDecreasingBy-from_sort}
use Rattle.seam_table.proofs.NumberLemmas.{sorted_numbers}
use Rattle.seam_slab.specs.Slotted.{slotted}
use Rattle.seam_slab.proofs.Slots.{distinct_slotted}
use Rattle.seam_slab.proofs.SlabTable.numbers.Goals as goal

pub returns : goal.returns
returns g c =
    let s = c.self.inside.slots in
    let es = c.self.inside.keys.entries in
    sorted_numbers (slotted s es) c.in_ok-numbers.numbers.items c.sort_unstable.new.self.items
    (distinct_slotted s es c.self.invariant.distinct) c.in_ok-numbers.ensures c.sort_unstable.ensures.permutation
    (IsNonDecreasingBy-from_sort (λ x. x) _ c.sort_unstable.ensures.sorted)
    ∙ ap (λ w. map.keys w.items) c.self.view_is
