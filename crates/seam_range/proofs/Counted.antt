-- A list in rising number that has each near entity once, at its location, is the near entities in rising number.
use Rattle.std.proofs.Common.{◌≡◌, ◌≤◌, ◌+◌, ℕ, Bool, true, false, cond, ◌||◌, eqb, ltb, List, [], ◌∷◌, Option, None, Some, refl, sym, ap}
use Rattle.std.proofs.Common.{◌∙◌, is_some, unwrap_or, get_or, zero, suc, ◌<◌, length, subst, arith}
use Rattle.std.specs.Ordering.{nat_cmp, is_eq, eq_by_cmp}
use Rattle.std.specs.Cmp.{nat_cmp_total, eq_by_cmp_equiv}
use Rattle.std.specs.Map.{keys_of, lookup}
use Rattle.std.specs.BTreeMap.{is_at}
use Rattle.std.specs.List.{IsDistinct, AllByRecursion, filter, list_any, count_by}
use Rattle.std.specs.List.Sorted.{IsPermutation, IsNonDecreasing, IsNonDecreasingBy, IsStrictlySortedBy}
use Rattle.std.specs.FinMap as map
use Rattle.std.specs.BTreeMap as tree
use Rattle.std.proofs.Common.{map as each}
use Rattle.seam_geo.specs.declared.pos.Pos.{Pos}
use Rattle.seam_range.specs.declared.Keyed.{Keyed}
use Rattle.seam_range.specs.Locations.{is_within, within}
use Rattle.seam_range.specs.Indexed.{locations_of}
use Rattle.std.proofs.lemmas.Bool.Decides.{nat_tests}
use Rattle.std.proofs.lemmas.List.Sums.{sum_by-cons}
use Rattle.std.proofs.lemmas.List.Sorted.{sum_by-IsPermutation, All-permutation}
use Rattle.std.proofs.lemmas.List.Elements.{recursion_from_All}
use Rattle.std.proofs.lemmas.Map.Entries.{lookup-filter-values, option_filter}
use Rattle.std.proofs.lemmas.Map.Keys.{IsDistinct-from_sorted, IsDistinct-cons, IsDistinct-head, IsDistinct-tail}
use Rattle.std.proofs.lemmas.Map.Keys.{IsStrictlyIncreasing-from_distinct}
use Rattle.std.proofs.lemmas.Map.Keys.{sorted_from_strictly_increasing}
use Rattle.std.proofs.lemmas.Map.Made.{is_some-lookup}
use Rattle.seam_range.specs.declared.Location.{Location}
use Rattle.seam_range.specs.Found.{count_of, AreLocated, one_if}
use Rattle.seam_range.proofs.Links.{same_again}
use Rattle.seam_range.proofs.Sorted.{same_number, sorted_same, sorted_by_filter, entries_when_sorted, lookup_of_find}

-- ---- counts of numbers

abbrev number_count : ℕ → List ℕ → ℕ
number_count q xs = count_by (λ x. eqb x q) xs

count_cons : (q x : ℕ) (xs : List ℕ) → number_count q (x ∷ xs) ≡ cond (eqb x q) 1 0 + number_count q xs
count_cons q x xs = sum_by-cons (λ y. cond (eqb y q) 1 0) x xs

none_by : (x y : ℕ) (n : ℕ) (b : Bool) → eqb y x ≡ b → cond b 1 0 + n ≡ 0 → (eqb x y ≡ false) × (n ≡ 0)
none_by x y n true e h = absurd (omega (arith, h))
none_by x y n false e h = (grind (arith, nat_tests), omega (arith, h))

none_counted : (x : ℕ) (xs : List ℕ) → number_count x xs ≡ 0 → AllByRecursion (λ y. eqb x y ≡ false) xs
none_counted x [] h = tt
none_counted x (y ∷ ys) h =
    let k = none_by x y (number_count x ys) (eqb y x) refl (sym (count_cons x y ys) ∙ h) in (k.0, none_counted x ys k.1)

distinct_when_counted : (xs : List ℕ) → ((q : ℕ) → number_count q xs ≤ 1) → IsDistinct eqb xs
unfolding IsDistinct
distinct_when_counted [] h = tt
distinct_when_counted (x ∷ xs) h =
    let one = count_cons x x xs ∙ ap (λ b. cond b 1 0 + number_count x xs) (same_again x) in
    let most = h x in
    let rest : (q : ℕ) → number_count q xs ≤ 1 = λ q. let a = count_cons q x xs in let b = h q in omega (arith, a, b) in
    IsDistinct-cons eqb x xs (none_counted x xs (omega (arith, one, most))) (distinct_when_counted xs rest)

any_by : (n : ℕ) (b c : Bool) → c ≡ ltb 0 n → (b || c) ≡ ltb 0 (cond b 1 0 + n)
any_by n true c e = let yes : ltb 0 (1 + n) ≡ true = grind (arith, nat_tests) in sym yes
any_by n false c e = e ∙ ap (ltb 0) (let h : n ≡ 0 + n = omega arith in h)

tied : (q x : ℕ) → is_eq (nat_cmp q x) ≡ eqb x q
tied q x = grind (arith, nat_tests)

any_when_counted : (q : ℕ) (xs : List ℕ) → list_any (is_at (nat_cmp q)) xs ≡ ltb 0 (number_count q xs)
any_when_counted q [] = refl
any_when_counted q (x ∷ xs) =
    ap (λ b. b || list_any (is_at (nat_cmp q)) xs) (tied q x)
    ∙ (any_by (number_count q xs) (eqb x q) _ (any_when_counted q xs) ∙ ap (ltb 0) (sym (count_cons q x xs)))

-- of the entities of a list
keys_counted : (q : ℕ) (xs : List (ℕ × Location)) → number_count q (keys_of xs) ≡ count_of q xs
keys_counted q [] = refl
keys_counted q (x ∷ xs) =
    count_cons q x.0 (keys_of xs)
    ∙ (ap (λ n. cond (eqb x.0 q) 1 0 + n) (keys_counted q xs) ∙ sym (sum_by-cons (λ y. cond (eqb y.0 q) 1 0) x xs))

-- ---- entities in rising number

key_at : (xs : List (ℕ × Location)) (i d : ℕ) (v : Location) → get_or (keys_of xs) i d ≡ (get_or xs i (d, v)).0
key_at [] i d v = refl
key_at (x ∷ xs) zero d v = refl
key_at (x ∷ xs) (suc i) d v = key_at xs i d v

as_many : (xs : List (ℕ × Location)) → length (keys_of xs) ≡ length xs
as_many [] = refl
as_many (x ∷ xs) = ap suc (as_many xs)

keys_rise : (xs : List (ℕ × Location)) → IsNonDecreasingBy (λ x. x.0) xs → IsNonDecreasing (keys_of xs)
keys_rise xs up i j d le lt =
    let v : Location = record { version = 0; pos = record { x = 0; z = 0 } } in
    subst (λ n. n ≤ get_or (keys_of xs) j d) (sym (key_at xs i d v))
    (subst (λ n. (get_or xs i (d, v)).0 ≤ n) (sym (key_at xs j d v))
    (up i j (d, v) le (subst (λ n. j < n) (as_many xs) lt)))

-- ---- and at their locations

abbrev AreLocatedBy : {X : Type 0} → (ℕ → Option X) → List (ℕ × X) → Type 0
AreLocatedBy f xs = AllByRecursion (λ x. f x.0 ≡ Some x.1) xs

same_by_keys : (f : ℕ → Option Location) (xs ys : List (ℕ × Location)) → keys_of xs ≡ keys_of ys → AreLocatedBy f xs → AreLocatedBy f ys →
    xs ≡ ys
same_by_keys f [] [] e h k = refl
same_by_keys f [] (y ∷ ys) e h k = cc
same_by_keys f (x ∷ xs) [] e h k = cc
same_by_keys f (x ∷ xs) (y ∷ ys) e h k =
    let key : x.0 ≡ y.0 = cc in
    let keys : keys_of xs ≡ keys_of ys = cc in
    let value : x.1 ≡ y.1 = ap (λ o. unwrap_or o x.1) (sym h.0 ∙ (ap f key ∙ k.0)) in
    let rest = same_by_keys f xs ys keys h.1 k.1 in
    λ i. (key i, value i) ∷ rest i

in_filter : (f : ℕ → Option Location) (t : ℕ × Location → Bool) (xs : List (ℕ × Location)) → AreLocatedBy f xs →
    AreLocatedBy f (filter t xs)
in_filter f t [] h = tt
in_filter f t (x ∷ xs) h =
    elim (t x) as (λ b. AreLocatedBy f (cond b (x ∷ filter t xs) (filter t xs)))
    [ true ↦ (h.0, in_filter f t xs h.1) | false ↦ in_filter f t xs h.1 ]

apart : (x y : ℕ) → is_eq (nat_cmp x y) ≡ false → is_eq (nat_cmp y x) ≡ false
apart x y h = grind (arith, nat_tests)

found_past : {X : Type 0} (x : ℕ × X) (es xs : List (ℕ × X)) → AllByRecursion (λ y. is_eq (nat_cmp x.0 y) ≡ false) (keys_of xs) →
    AreLocatedBy (λ q. lookup (is_at (nat_cmp q)) es) xs → AreLocatedBy (λ q. lookup (is_at (nat_cmp q)) (x ∷ es)) xs
found_past x es [] h k = tt
found_past x es (y ∷ xs) h k =
    (ap (λ b. cond b (Some x.1) (lookup (is_at (nat_cmp y.0)) es)) (apart x.0 y.0 h.0) ∙ k.0, found_past x es xs h.1 k.1)

-- entries are at the locations that they give
each_found : {X : Type 0} (es : List (ℕ × X)) → IsDistinct (eq_by_cmp nat_cmp) (keys_of es) →
    AreLocatedBy (λ q. lookup (is_at (nat_cmp q)) es) es
each_found [] u = tt
each_found (x ∷ es) u = (
  ap (λ b. cond b (Some x.1) (lookup (is_at (nat_cmp x.0)) es)) (same_number x.0),
  found_past x es es (IsDistinct-head (eq_by_cmp nat_cmp) x.0 (keys_of es) u)
      (each_found es (IsDistinct-tail (eq_by_cmp nat_cmp) x.0 (keys_of es) u)),
)

entry_at : (es : List (ℕ × Location)) (q : ℕ) → map.get (map.from_entries {R = nat_cmp} es) q ≡ lookup (is_at (nat_cmp q)) es
entry_at es q = map.get-from_entries nat_cmp_total es q ∙ lookup_of_find q es

by_entry : (es xs : List (ℕ × Location)) → AllByRecursion (λ x. map.get (map.from_entries {R = nat_cmp} es) x.0 ≡ Some x.1) xs →
    AreLocatedBy (λ q. lookup (is_at (nat_cmp q)) es) xs
by_entry es [] h = tt
by_entry es (x ∷ xs) h = (sym (entry_at es x.0) ∙ h.0, by_entry es xs h.1)

-- ---- those near

module _ (test : Location → Bool) where
  at_most_one : (o : Option Location) → one_if test o ≤ 1
  at_most_one None = omega arith
  at_most_one (Some p) = elim (test p) as (λ b. cond b 1 0 ≤ 1) [ true ↦ omega arith | false ↦ omega arith ]

  passes : (o : Option Location) → ltb 0 (one_if test o) ≡ is_some (option_filter test o)
  passes None = refl
  passes (Some p) = elim (test p) as (λ b. ltb 0 (cond b 1 0) ≡ is_some (cond b (Some p) None)) [ true ↦ refl | false ↦ refl ]

  keys_when_counted : (es : List (ℕ × Location)) (rising : List ℕ) → IsStrictlySortedBy nat_cmp (keys_of es) →
      ((q : ℕ) → number_count q rising ≡ one_if test (lookup (is_at (nat_cmp q)) es)) → IsNonDecreasing rising →
      rising ≡ keys_of (filter (λ e. test e.1) es)
  keys_when_counted es rising o counted up =
      let once =
      distinct_when_counted rising (λ q. let most = at_most_one (lookup (is_at (nat_cmp q)) es) in let e = counted q in
      omega (arith, most, e)) in
      let rises = sorted_from_strictly_increasing rising (IsStrictlyIncreasing-from_distinct rising up once) in
      sorted_same rising (keys_of (filter (λ e. test e.1) es)) rises (sorted_by_filter (λ e. test e.1) es o) (λ q.
      any_when_counted q rising
      ∙ (ap (ltb 0) (counted q)
      ∙ (passes (lookup (is_at (nat_cmp q)) es)
      ∙
      (ap is_some
      (sym (lookup-filter-values (eq_by_cmp_equiv nat_cmp_total) test q es
      (IsDistinct-from_sorted nat_cmp (keys_of es) o)))
      ∙ is_some-lookup (is_at (nat_cmp q)) (filter (λ e. test e.1) es)))))

  pub sorted_when_counted : (es : List (ℕ × Location)) (found rising : List (ℕ × Location)) → IsStrictlySortedBy nat_cmp (keys_of es) →
      ((q : ℕ) → count_of q found ≡ one_if test (map.get (map.from_entries {R = nat_cmp} es) q)) →
      AreLocated (map.from_entries {R = nat_cmp} es) found → IsPermutation found rising → IsNonDecreasingBy (λ x. x.0) rising →
      rising ≡ filter (λ e. test e.1) (map.entries (map.from_entries {R = nat_cmp} es))
  sorted_when_counted es found rising o counts locations moved up =
      let counted : (q : ℕ) → number_count q (keys_of rising) ≡ one_if test (lookup (is_at (nat_cmp q)) es) = λ q.
      keys_counted q rising
      ∙ (sum_by-IsPermutation (λ x. cond (eqb x.0 q) 1 0) found rising moved ∙ (counts q ∙ ap (one_if test) (entry_at es q))) in
      let there =
      recursion_from_All (λ x. map.get (map.from_entries {R = nat_cmp} es) x.0 ≡ Some x.1) rising
      (All-permutation (λ x. map.get (map.from_entries {R = nat_cmp} es) x.0 ≡ Some x.1) found rising moved locations) in
      same_by_keys (λ q. lookup (is_at (nat_cmp q)) es) rising (filter (λ e. test e.1) es)
      (keys_when_counted es (keys_of rising) o counted (keys_rise rising up))
      (by_entry es rising there)
      (in_filter (λ q. lookup (is_at (nat_cmp q)) es) (λ e. test e.1) es
      (each_found es (IsDistinct-from_sorted nat_cmp (keys_of es) o)))
      ∙ ap (λ es. filter (λ e. test e.1) es) (sym (entries_when_sorted es o))

-- ---- all of those that have an entry

keys_located : (es : List (ℕ × Keyed)) → keys_of (each (λ r. (r.0, r.1.location)) es) ≡ keys_of es
keys_located [] = refl
keys_located (e ∷ es) = ap (λ l. e.0 ∷ l) (keys_located es)

pub located_sorted : (m : tree.BTreeMap ℕ Keyed) → tree.IsOrdered nat_cmp m →
    IsStrictlySortedBy nat_cmp (keys_of (each (λ r. (r.0, r.1.location)) m.entries))
located_sorted m o = subst (IsStrictlySortedBy nat_cmp) (sym (keys_located m.entries)) o

pub all_within : (m : tree.BTreeMap ℕ Keyed) (p : Pos) (d : ℕ) → tree.IsOrdered nat_cmp m →
    filter (λ e. is_within p d e.1) (each (λ r. (r.0, r.1.location)) m.entries) ≡ within (locations_of m.entries) p d
all_within m p d o = ap (λ es. filter (λ e. is_within p d e.1) es) (sym (entries_when_sorted _ (located_sorted m o)))
