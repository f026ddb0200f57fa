use Rattle.std.proofs.Common.{◌≡◌, ℕ, sym, subst, ap, ◌∙◌, rules, map as each}
use Rattle.std.specs.FinMap as map
use Rattle.std.specs.Option.{IfSome}
use Rattle.std.proofs.lemmas.List.Sorted.{IsNonDecreasingBy-from_sort_by_key}
use Rattle.seam_range.specs.Locations.{is_within, within}
use Rattle.seam_range.specs.Found.{count_of, AreLocated, one_if}
use Rattle.seam_range.proofs.Counted.{sorted_when_counted, located_sorted}
use Rattle.seam_range.proofs.RangeList.within.Goals as goal

pub returns : goal.returns
returns c =
    let near =
    subst (λ o. IfSome o (λ v. (q : ℕ) → count_of q v.items ≡ one_if (is_within c.args.p c.args.d) (map.get c.args.self.now q)))
    c.in-Some.is
    c.in_ok-found.ensures.near in
    let locations = subst (λ o. IfSome o (λ v. AreLocated c.args.self.now v.items)) c.in-Some.is c.in_ok-found.ensures.locations in
    sorted_when_counted (is_within c.args.p c.args.d) (each (λ r. (r.0, r.1.location)) c.self.inside.locations.entries)
    c.in-Some.found.items c.sort_unstable_by_key.new.self.items
    (located_sorted c.self.inside.locations c.self.invariant.ordered)
    (λ q. near q ∙ ap (λ m. one_if (is_within c.args.p c.args.d) (map.get m q)) (sym c.self.view_is))
    (subst (λ m. AreLocated m c.in-Some.found.items) (sym c.self.view_is) locations)
    c.sort_unstable_by_key.ensures.permutation
    (IsNonDecreasingBy-from_sort_by_key (λ x. x.0) _ c.sort_unstable_by_key.ensures.sorted (λ a r q k. search rules))
    ∙ ap (λ m. within m c.args.p c.args.d) c.self.view_is
