-- Marks of parts where a round begins.
use Rattle.std.proofs.Common.{◌≡◌, Bool, Option, None, Some, refl, sym, ap, ◌∙◌}
use Rattle.std.specs.Prelude.{option_map}
use Rattle.std.specs.FinMap as table
use Rattle.seam_table.proofs.Changed.{got_changed}
use Rattle.seam_node_steps.specs.Prelude.{Map, each_value, PartView, ProxyView, proxy_is_ready, proxy_begins, part_begins}
use Rattle.seam_base.specs.Nodes.{has_call, has_update}
use Rattle.seam_base.specs.Marks.{passes, AreMarked}

begun_update : (p : PartView) → has_update (part_begins p) ≡ has_update p
begun_update p = by p.proxy
  where
    by : (x : Option ProxyView) → proxy_is_ready (option_map proxy_begins x) ≡ proxy_is_ready x
    by None = refl
    by (Some x) = refl

marks_by : (test : PartView → Bool) → ((p : PartView) → test (part_begins p) ≡ test p) → (o : Option PartView) →
    passes test (option_map part_begins o) ≡ passes test o
marks_by test same None = refl
marks_by test same (Some p) = same p

marks_begun : {M : Type 0} (test : PartView → Bool) → ((p : PartView) → test (part_begins p) ≡ test p) → (marks : Map M)
    (m n : Map PartView) → n ≡ each_value part_begins m → AreMarked test marks m → AreMarked test marks n
marks_begun test same marks m n is are q =
    are q
    ∙ (sym (marks_by test same (table.get m q))
    ∙ ap (passes test) (sym (ap (λ k. table.get k q) is ∙ got_changed part_begins m q)))

pub calls_begun : {M : Type 0} (marks : Map M) (m n : Map PartView) → n ≡ each_value part_begins m → AreMarked has_call marks m →
    AreMarked has_call marks n
calls_begun marks m n is are = marks_begun has_call (λ p. refl) marks m n is are

pub updates_begun : {M : Type 0} (marks : Map M) (m n : Map PartView) → n ≡ each_value part_begins m → AreMarked has_update marks m →
    AreMarked has_update marks n
updates_begun marks m n is are = marks_begun has_update begun_update marks m n is are
