use Rattle.std.proofs.Common.{ap, ◌∙◌}
use Rattle.std.specs.FinMap as map
use Rattle.std.proofs.lemmas.List.Sorted.{IsNonDecreasingBy-from_sort}
use Rattle.seam_table.proofs.NumberLemmas.{sorted_numbers}
use Rattle.seam_table.proofs.Table.numbers.Goals as goal

pub returns : goal.returns
returns g c =
    sorted_numbers c.self.inside.entries.entries c.in_ok-numbers.numbers.items c.sort_unstable.new.self.items c.self.invariant
    c.in_ok-numbers.ensures c.sort_unstable.ensures.permutation (IsNonDecreasingBy-from_sort (λ x. x) _ c.sort_unstable.ensures.sorted)
    ∙ ap (λ w. map.keys w.items) c.self.view_is
