-- The entities that left, each with the version at which it did last: the latest, and those settled, which lie in rising number.
use Rattle.std.specs.Prelude.{◌≡◌, ◌≤◌, ◌++◌, ℕ, nat_eq, true, List, None, drop, is_some, length}
use Rattle.std.specs.List.{zip}
use Rattle.std.specs.List.Sorted.{IsStrictlySortedBy}
use Rattle.std.specs.Map.{lookup}
use Rattle.std.specs.Ordering.{nat_cmp}
use Rattle.seam_view.specs.declared.departed.Settled.{Settled}
use Rattle.seam_view.specs.declared.departed.Merging.{Merging}

-- the pairs of those settled
abbrev pub pairs_of : Settled → List (ℕ × ℕ)
pairs_of s = zip s.entities.items s.versions.items

-- each has a version, and their numbers rise
pub record IsSettled (s : Settled) : Type 0 where
  pub many : length s.versions.items ≡ length s.entities.items
  pub rising : IsStrictlySortedBy nat_cmp s.entities.items

-- none of those settled is among the latest
abbrev pub AreApart : List (ℕ × ℕ) → List (ℕ × ℕ) → Type 0
AreApart latest settled = (q : ℕ) → is_some (lookup (nat_eq q) settled) ≡ true → lookup (nat_eq q) latest ≡ None

-- ---- while the latest are merged into the others

-- the entities made, and those to come
abbrev pub entities_in : Settled → Merging → List ℕ
entities_in all m = m.made.entities.items ++ drop m.next all.entities.items

-- their versions
abbrev pub versions_in : Settled → Merging → List ℕ
versions_in all m = m.made.versions.items ++ drop m.next all.versions.items

-- as many versions are made as entities, and all rise, those to come too
pub record IsMerging (all : Settled) (m : Merging) : Type 0 where
  pub within : m.next ≤ length all.entities.items
  pub many : length m.made.versions.items ≡ length m.made.entities.items
  pub rising : IsStrictlySortedBy nat_cmp (entities_in all m)
