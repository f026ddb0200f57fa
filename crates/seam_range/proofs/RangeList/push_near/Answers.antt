use Rattle.std.proofs.Common.{◌≡◌, ◌+◌, ℕ, true, IfOk, sym, subst}
use Rattle.std.specs.FinMap as map
use Rattle.seam_range.specs.Found.{count_of, AreLocated, one_if, is_in_strip}
use Rattle.seam_range.proofs.Strips.{counted_after, located_after}
use Rattle.seam_range.proofs.RangeList.push_near.Goals as goal

pub returns-clause-near : goal.returns-clause-near
returns-clause-near c =
    subst (λ m. IfOk c.push_run.result (λ whole. whole ≡ true → (q : ℕ) → count_of q c.push_run.new.found.items
    ≡ count_of q c.args.found.now.items + one_if (is_in_strip c.args.strip c.args.search.p c.args.search.d) (map.get m q))) c.self.view_is
    (counted_after c.self.inside.locations c.self.inside.spots c.self.inside.buckets c.self.invariant c.push_run.ensures.ordered
    c.args.search.p
    c.args.search.d c.args.strip c.args.found.now.items c.push_run.new.found.items c.push_run.result c.push_run.ensures.near)

pub returns-clause-locations : goal.returns-clause-locations
returns-clause-locations c =
    subst (λ m. IfOk c.push_run.result (λ whole. whole ≡ true → AreLocated m c.push_run.new.found.items)) c.self.view_is
    (located_after c.self.inside.locations c.self.inside.spots c.self.inside.buckets c.self.invariant c.push_run.ensures.ordered
    c.args.search.p
    c.args.search.d c.args.strip c.args.found.now.items c.push_run.new.found.items c.push_run.result c.push_run.ensures.near
    (subst (λ m. AreLocated m c.args.found.now.items) (sym c.self.view_is) c.requires))
