use Rattle.std.proofs.Common.{refl, [], ◌∷◌}
use Rattle.std.specs.Cmp.{nat_cmp_total}
use Rattle.std.specs.FinMap as versions
use Rattle.std.specs.List.{IsDistinct}
use Rattle.std.specs.List.Sorted.{IsStrictlySortedBy}
use Rattle.seam_test_nodes.proofs.views.leaves_then_sets_then_enters.Goals as goal

pub of_lists-requires-clause-once : goal.of_lists-requires-clause-once
unfolding IsDistinct
of_lists-requires-clause-once g c = ((refl, (refl, tt)), ((refl, tt), (tt, tt)))

pub of_lists-requires-clause-rising : goal.of_lists-requires-clause-rising
unfolding IsStrictlySortedBy
of_lists-requires-clause-rising g c = ((refl, (refl, (refl, tt))), ((refl, (refl, tt)), ((refl, tt), (tt, tt))))

pub of_lists-requires-clause-last : goal.of_lists-requires-clause-last
of_lists-requires-clause-last g c =
    let shown = (2, 1) ∷ (5, 1) ∷ (7, 4) ∷ (9, 1) ∷ [] in (
      versions.get-from_entries nat_cmp_total shown 5,
      (versions.get-from_entries nat_cmp_total shown 2, (versions.get-from_entries nat_cmp_total shown 9, tt)),
    )

pub tells-requires : goal.tells-requires
unfolding IsStrictlySortedBy
tells-requires g c = ((refl, (refl, tt)), ((refl, tt), (tt, tt)))
