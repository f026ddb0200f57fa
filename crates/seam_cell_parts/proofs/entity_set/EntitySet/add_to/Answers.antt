use Rattle.std.proofs.Common.{subst}
use Rattle.std.specs.List.Sorted.{IsStrictlySortedBy}
use Rattle.std.specs.Ordering.{nat_cmp}
use Rattle.seam_cell_parts.proofs.SetLemmas.{members_rise}
use Rattle.seam_cell_parts.proofs.entity_set.EntitySet.add_to.Goals as goal

pub returns-in-Some-clause-rising : goal.returns-in-Some-clause-rising
returns-in-Some-clause-rising c =
    subst (IsStrictlySortedBy nat_cmp) c.self.view_is (members_rise c.self.inside.one c.self.inside.numbers.keys c.self.invariant)
