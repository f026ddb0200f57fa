-- The numbers of a table's items, in rising order.
use Rattle.std.proofs.Common.{◌≡◌, ℕ, Bool, true, false, cond, ◌&&◌, T, List, [], ◌∷◌, Option, None, Some, is_some, nat_eq}
use Rattle.std.proofs.Common.{map as each, refl, sym, ap, subst, ◌∙◌}
use Rattle.std.specs.Prelude.{option_map}
use Rattle.std.specs.List.{filter, list_any, IsDistinct, AllByRecursion}
use Rattle.std.specs.List.Sorted.{IsStrictlySortedBy, IsPermutation, IsNonDecreasing}
use Rattle.std.specs.Map.{keys_of}
use Rattle.std.specs.Ordering.{nat_cmp, is_lt, eq_by_cmp}
use Rattle.std.specs.declared.cmp.Ordering.TheVariants.{Less}
use Rattle.std.specs.Cmp.{nat_cmp_total}
use Rattle.std.specs.FinMap as map
use Rattle.std.specs.FinMap.Entries.{is_sorted, below_all, is_some-find}
use Rattle.std.proofs.lemmas.Cmp.{nat_eq_equiv}
use Rattle.std.proofs.lemmas.List.Sorted.{list_any-IsPermutation}
use Rattle.std.proofs.lemmas.Map.Keys.{sorted_head, sorted_tail, IsDistinct-IsPermutation, IsStrictlyIncreasing-from_distinct}
use Rattle.std.proofs.lemmas.Map.Keys.{sorted_from_strictly_increasing}
use Rattle.std.proofs.lemmas.Map.Made.{IsDistinct-keys_filter}
use Rattle.seam_table.specs.Entries.{kept_before, kept, table_of}
use Rattle.seam_table.proofs.Changed.{with_changed, changed, got_changed, entries_changed}

-- ---- rising numbers that a finite map has are its keys

-- the numbers as entries with nothing in them
abbrev bare : List ℕ → List (ℕ × Unit {0})
bare ns = each (λ n. (n, tt)) ns

both : (a b : Bool) → T a → T b → T (a && b)
both true b p q = q
both false b p q = p

below_bare : (x : ℕ) (ns : List ℕ) → AllByRecursion (λ y. nat_cmp x y ≡ Less) ns → T (below_all nat_cmp x (bare ns))
below_bare x [] h = tt
below_bare x (n ∷ ns) h = subst (λ o. T (is_lt o && below_all nat_cmp x (bare ns))) (sym h.0) (below_bare x ns h.1)

bare_rise : (ns : List ℕ) → IsStrictlySortedBy nat_cmp ns → T (is_sorted nat_cmp (bare ns))
bare_rise [] h = tt
bare_rise (n ∷ ns) h = both _ _ (below_bare n ns (sorted_head nat_cmp n ns h)) (bare_rise ns (sorted_tail nat_cmp n ns h))

keys_bare : (ns : List ℕ) → keys_of (bare ns) ≡ ns
keys_bare [] = refl
keys_bare (n ∷ ns) = ap (λ l. n ∷ l) (keys_bare ns)

abbrev nothing : {X : Type 0} → X → Unit {0}
nothing x = tt

-- what a finite map of bare numbers has, by whether it has anything
by_presence : (o p : Option (Unit {0})) → is_some o ≡ is_some p → o ≡ p
by_presence None None e = refl
by_presence None (Some u) e = cc
by_presence (Some u) None e = cc
by_presence (Some u) (Some v) e = refl

module _ {X : Type 0} where
  keys_changed : (es : List (ℕ × X)) → keys_of (changed nothing es) ≡ keys_of es
  keys_changed [] = refl
  keys_changed (e ∷ es) = ap (λ l. e.0 ∷ l) (keys_changed es)

  presence_changed : (o : Option X) → is_some (option_map nothing o) ≡ is_some o
  presence_changed None = refl
  presence_changed (Some x) = refl

  keys_are : (m : map.FinMap nat_cmp X) (ns : List ℕ) → IsStrictlySortedBy nat_cmp ns →
      ((q : ℕ) → list_any (eq_by_cmp nat_cmp q) ns ≡ map.contains_key m q) → ns ≡ map.keys m
  keys_are m ns rises has =
      let b : map.FinMap nat_cmp (Unit {0}) = map.from_sorted (bare ns) in
      let n : map.FinMap nat_cmp (Unit {0}) = with_changed nothing m in
      let sorted = bare_rise ns rises in
      let same : b ≡ n = map.same_map nat_cmp_total map.nat_cmp-IsAntisymmetric b n (λ q. by_presence (map.get b q) (map.get n q)
      (ap is_some (map.get-from_sorted nat_cmp (bare ns) q sorted)
      ∙ (is_some-find nat_cmp q (bare ns)
      ∙ (ap (list_any (eq_by_cmp nat_cmp q)) (keys_bare ns)
      ∙ (has q ∙ sym (ap is_some (got_changed nothing m q) ∙ presence_changed (map.get m q))))))) in
      sym (keys_bare ns)
      ∙ (ap keys_of (sym (map.entries-from_sorted nat_cmp (bare ns) sorted) ∙ (ap map.entries same ∙ entries_changed nothing m))
      ∙ keys_changed (map.entries m))

-- ---- the numbers of the entries that have an item

module _ {X : Type 0} where
  keys_kept : (ss : List (ℕ × Option X)) → keys_of (kept ss) ≡ keys_of (filter (λ s. is_some s.1) ss)
  keys_kept [] = refl
  keys_kept (s ∷ ss) = by s.1 (keys_kept ss)
    where
      by : (slot : Option X) → keys_of (kept ss) ≡ keys_of (filter (λ s. is_some s.1) ss) →
          keys_of (kept_before s.0 slot (kept ss))
          ≡ keys_of (cond (is_some slot) (s ∷ filter (λ s. is_some s.1) ss) (filter (λ s. is_some s.1) ss))
      by None rest = rest
      by (Some x) rest = ap (λ l. s.0 ∷ l) rest

  -- sorted, they are the numbers of the table's items
  pub sorted_numbers : (ss : List (ℕ × Option X)) (found rising : List ℕ) → IsDistinct nat_eq (keys_of ss) →
      found ≡ keys_of (filter (λ s. is_some s.1) ss) → IsPermutation found rising → IsNonDecreasing rising →
      rising ≡ map.keys (table_of ss).items
  sorted_numbers ss found rising distinct is moved up =
      let once = IsDistinct-IsPermutation nat_eq nat_eq_equiv.symm found rising moved
      (subst (IsDistinct nat_eq) (sym is) (IsDistinct-keys_filter nat_eq (λ s. is_some s.1) ss distinct)) in
      keys_are (table_of ss).items rising (sorted_from_strictly_increasing rising (IsStrictlyIncreasing-from_distinct rising up once)) (λ q.
      sym (list_any-IsPermutation (eq_by_cmp nat_cmp q) found rising moved)
      ∙ (ap (list_any (eq_by_cmp nat_cmp q)) (is ∙ sym (keys_kept ss))
      ∙ sym (ap is_some (map.get-from_entries nat_cmp_total (kept ss) q) ∙ is_some-find nat_cmp q (kept ss))))
