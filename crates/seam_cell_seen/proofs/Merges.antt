-- Two lists in rising number as one.
use Rattle.std.proofs.Common.{◌≡◌, ◌<◌, ℕ, Bool, true, false, cond, T, List, [], ◌∷◌, Option, None, Some, refl, sym, ap, ◌∙◌, subst, arith}
use Rattle.std.specs.Ordering.{nat_cmp, eq_by_cmp, is_lt, match_ordering}
use Rattle.std.specs.declared.cmp.Ordering.{Ordering}
use Rattle.std.specs.declared.cmp.Ordering.TheVariants.{Less, Equal, Greater}
use Rattle.std.specs.Cmp.{nat_cmp_total}
use Rattle.std.specs.FinMap as table
use Rattle.std.specs.FinMap.Entries.{is_sorted, below_all}
use Rattle.std.proofs.lemmas.Bool.Decides.{nat_tests}
use Rattle.seam_range.specs.declared.Location.{Location}
use Rattle.seam_range.specs.Locations.{Locations}
use Rattle.seam_node_steps.specs.Knowing.{or_else}
use Rattle.seam_node_steps.proofs.Sorted.{both, first, second, tied_same, none_below}
use Rattle.seam_cell_seen.specs.Merging.{merged, merged_with}

-- ---- the next of both

module _ (xs ys ls ms : List (ℕ × Location)) (x y : ℕ × Location) (is : ls ≡ x ∷ xs) (it : ms ≡ y ∷ ys) where
  abbrev by_order : Ordering → List (ℕ × Location)
  by_order o = match_ordering o (x ∷ merged xs (y ∷ ys)) (x ∷ merged xs ys) (y ∷ merged (x ∷ xs) ys)

  pub merged_less : x.0 < y.0 → merged ls ms ≡ x ∷ merged xs ms
  merged_less lt =
      let less : nat_cmp x.0 y.0 ≡ Less = grind (arith, nat_tests, lt) in
      (λ i. merged (is i) (it i)) ∙ (ap by_order less ∙ ap (λ l. x ∷ merged xs l) (sym it))

  pub merged_greater : y.0 < x.0 → merged ls ms ≡ y ∷ merged ls ys
  merged_greater lt =
      let greater : nat_cmp x.0 y.0 ≡ Greater = grind (arith, nat_tests, lt) in
      (λ i. merged (is i) (it i)) ∙ (ap by_order greater ∙ ap (λ l. y ∷ merged l ys) (sym is))

  pub merged_equal : (x.0 < y.0 → ⊥) → (y.0 < x.0 → ⊥) → merged ls ms ≡ x ∷ merged xs ys
  merged_equal a b =
      let key : x.0 ≡ y.0 = omega (arith, a, b) in
      let equal : nat_cmp x.0 y.0 ≡ Equal = grind (arith, nat_tests, key) in
      (λ i. merged (is i) (it i)) ∙ ap by_order equal

pub merged_alone : (xs ls ms : List (ℕ × Location)) (x : ℕ × Location) → ls ≡ x ∷ xs → ms ≡ [] → merged ls ms ≡ x ∷ merged xs ms
merged_alone xs ls ms x is none = (λ i. merged (is i) (none i)) ∙ ap (λ l. x ∷ merged xs l) (sym none)

-- ---- it rises

less_than : (q k n : ℕ) → T (is_lt (nat_cmp q k)) → T (is_lt (nat_cmp k n)) → T (is_lt (nat_cmp q n))
less_than q k n a b = grind (arith, nat_tests)

below_later : (q k : ℕ) (es : List (ℕ × Location)) → T (is_lt (nat_cmp q k)) → T (below_all nat_cmp k es) → T (below_all nat_cmp q es)
below_later q k [] lt h = tt
below_later q k (e ∷ es) lt h = both _ _ (less_than q k e.0 lt (first _ _ h)) (below_later q k es lt (second _ _ h))

is_less : (a b : ℕ) → nat_cmp a b ≡ Less → T (is_lt (nat_cmp a b))
is_less a b e = grind (arith, nat_tests, e)

is_greater : (a b : ℕ) → nat_cmp a b ≡ Greater → T (is_lt (nat_cmp b a))
is_greater a b e = grind (arith, nat_tests, e)

below_merged_with : (q : ℕ) (x : ℕ × Location) (rest : List (ℕ × Location) → List (ℕ × Location)) → T (is_lt (nat_cmp q x.0)) →
    ((zs : List (ℕ × Location)) → T (below_all nat_cmp q zs) → T (below_all nat_cmp q (rest zs))) → (ys : List (ℕ × Location)) →
    T (below_all nat_cmp q ys) → T (below_all nat_cmp q (merged_with x rest ys))
below_merged_with q x rest lt h [] k = both _ _ lt (h [] tt)
below_merged_with q x rest lt h (y ∷ ys) k = by (nat_cmp x.0 y.0) (below_merged_with q x rest lt h ys (second _ _ k))
  where
    by : (o : Ordering) → T (below_all nat_cmp q (merged_with x rest ys)) →
        T (below_all nat_cmp q (match_ordering o (x ∷ rest (y ∷ ys)) (x ∷ rest ys) (y ∷ merged_with x rest ys)))
    by Less more = both _ _ lt (h (y ∷ ys) k)
    by Equal more = both _ _ lt (h ys (second _ _ k))
    by Greater more = both _ _ (first _ _ k) more

below_merged : (q : ℕ) (xs ys : List (ℕ × Location)) → T (below_all nat_cmp q xs) → T (below_all nat_cmp q ys) →
    T (below_all nat_cmp q (merged xs ys))
below_merged q [] ys h k = k
below_merged q (x ∷ xs) ys h k =
    below_merged_with q x (merged xs) (first _ _ h) (λ zs l. below_merged q xs zs (second _ _ h) l) ys k

rising_merged_with : (x : ℕ × Location) (xs : List (ℕ × Location)) → T (below_all nat_cmp x.0 xs) →
    ((zs : List (ℕ × Location)) → T (is_sorted nat_cmp zs) → T (is_sorted nat_cmp (merged xs zs))) → (ys : List (ℕ × Location)) →
    T (is_sorted nat_cmp ys) → T (is_sorted nat_cmp (merged_with x (merged xs) ys))
rising_merged_with x xs below h [] k = both _ _ (below_merged x.0 xs [] below tt) (h [] tt)
rising_merged_with x xs below h (y ∷ ys) k = by (nat_cmp x.0 y.0) refl (rising_merged_with x xs below h ys (second _ _ k))
  where
    by : (o : Ordering) → nat_cmp x.0 y.0 ≡ o → T (is_sorted nat_cmp (merged_with x (merged xs) ys)) →
        T (is_sorted nat_cmp (match_ordering o (x ∷ merged xs (y ∷ ys)) (x ∷ merged xs ys) (y ∷ merged_with x (merged xs) ys)))
    by Less is more =
        let lt = is_less x.0 y.0 is in
        both _ _ (below_merged x.0 xs (y ∷ ys) below (both _ _ lt (below_later x.0 y.0 ys lt (first _ _ k)))) (h (y ∷ ys) k)
    by Equal is more =
        let key : x.0 ≡ y.0 = table.nat_cmp-IsAntisymmetric x.0 y.0 is in
        both _ _ (below_merged x.0 xs ys below (subst (λ n. T (below_all nat_cmp n ys)) (sym key) (first _ _ k))) (h ys (second _ _ k))
    by Greater is more =
        let lt = is_greater x.0 y.0 is in
        both _ _ (below_merged_with y.0 x (merged xs) lt
        (λ zs l. below_merged y.0 xs zs (below_later y.0 x.0 xs lt below) l) ys (first _ _ k)) more

pub rising_merged : (xs ys : List (ℕ × Location)) → T (is_sorted nat_cmp xs) → T (is_sorted nat_cmp ys) →
    T (is_sorted nat_cmp (merged xs ys))
rising_merged [] ys h k = k
rising_merged (x ∷ xs) ys h k = rising_merged_with x xs (first _ _ h) (λ zs l. rising_merged xs zs (second _ _ h) l) ys k

-- ---- what is found in it

cond_else : {A : Type 0} (b : Bool) (v : A) (o p : Option A) → cond b (Some v) (or_else o p) ≡ or_else (cond b (Some v) o) p
cond_else true v o p = refl
cond_else false v o p = refl

-- where both have the entity
cond_both : {A : Type 0} (b c : Bool) (v u : A) (o p : Option A) → b ≡ c →
    cond b (Some v) (or_else o p) ≡ or_else (cond b (Some v) o) (cond c (Some u) p)
cond_both true c v u o p same = refl
cond_both false true v u o p same = cc
cond_both false false v u o p same = refl

-- where one has none
cond_other : {A : Type 0} (c : Bool) (u : A) (o p : Option A) → (c ≡ true → o ≡ None) →
    cond c (Some u) (or_else o p) ≡ or_else o (cond c (Some u) p)
cond_other true u o p none = sym (ap (λ q. or_else q (Some u)) (none refl))
cond_other false u o p none = refl

find_merged_with : (q : ℕ) (x : ℕ × Location) (xs : List (ℕ × Location)) → T (below_all nat_cmp x.0 xs) →
    ((zs : List (ℕ × Location)) → table.find nat_cmp q (merged xs zs) ≡ or_else (table.find nat_cmp q xs) (table.find nat_cmp q zs)) →
    (ys : List (ℕ × Location)) → table.find nat_cmp q (merged_with x (merged xs) ys)
    ≡ or_else (cond (eq_by_cmp nat_cmp q x.0) (Some x.1) (table.find nat_cmp q xs)) (table.find nat_cmp q ys)
find_merged_with q x xs below h [] =
    ap (λ o. cond (eq_by_cmp nat_cmp q x.0) (Some x.1) o) (h [])
    ∙ cond_else (eq_by_cmp nat_cmp q x.0) x.1 (table.find nat_cmp q xs) None
find_merged_with q x xs below h (y ∷ ys) = by (nat_cmp x.0 y.0) refl (find_merged_with q x xs below h ys)
  where
    by : (o : Ordering) → nat_cmp x.0 y.0 ≡ o → table.find nat_cmp q (merged_with x (merged xs) ys)
        ≡ or_else (cond (eq_by_cmp nat_cmp q x.0) (Some x.1) (table.find nat_cmp q xs)) (table.find nat_cmp q ys) →
        table.find nat_cmp q (match_ordering o (x ∷ merged xs (y ∷ ys)) (x ∷ merged xs ys) (y ∷ merged_with x (merged xs) ys))
        ≡ or_else (cond (eq_by_cmp nat_cmp q x.0) (Some x.1) (table.find nat_cmp q xs))
        (cond (eq_by_cmp nat_cmp q y.0) (Some y.1) (table.find nat_cmp q ys))
    by Less is more =
        ap (λ o. cond (eq_by_cmp nat_cmp q x.0) (Some x.1) o) (h (y ∷ ys))
        ∙ cond_else (eq_by_cmp nat_cmp q x.0) x.1 (table.find nat_cmp q xs)
        (cond (eq_by_cmp nat_cmp q y.0) (Some y.1) (table.find nat_cmp q ys))
    by Equal is more =
        let key : x.0 ≡ y.0 = table.nat_cmp-IsAntisymmetric x.0 y.0 is in
        ap (λ o. cond (eq_by_cmp nat_cmp q x.0) (Some x.1) o) (h ys)
        ∙ cond_both (eq_by_cmp nat_cmp q x.0) (eq_by_cmp nat_cmp q y.0) x.1 y.1 (table.find nat_cmp q xs) (table.find nat_cmp q ys)
        (ap (eq_by_cmp nat_cmp q) key)
    by Greater is more =
        let lt = is_greater x.0 y.0 is in
        ap (λ o. cond (eq_by_cmp nat_cmp q y.0) (Some y.1) o) more
        ∙ cond_other (eq_by_cmp nat_cmp q y.0) y.1 (cond (eq_by_cmp nat_cmp q x.0) (Some x.1) (table.find nat_cmp q xs))
        (table.find nat_cmp q ys)
        (λ tied. ap (λ k. table.find nat_cmp k (x ∷ xs)) (tied_same q y.0 tied)
        ∙ none_below y.0 (x ∷ xs) (both _ _ lt (below_later y.0 x.0 xs lt below)))

pub find_merged : (q : ℕ) (xs ys : List (ℕ × Location)) → T (is_sorted nat_cmp xs) →
    table.find nat_cmp q (merged xs ys) ≡ or_else (table.find nat_cmp q xs) (table.find nat_cmp q ys)
find_merged q [] ys h = refl
find_merged q (x ∷ xs) ys h = find_merged_with q x xs (first _ _ h) (λ zs. find_merged q xs zs (second _ _ h)) ys

-- ---- lists in rising number with the same at each number

pub same_locations : (es fs : List (ℕ × Location)) → T (is_sorted nat_cmp es) → T (is_sorted nat_cmp fs) →
    ((q : ℕ) → table.find nat_cmp q es ≡ table.find nat_cmp q fs) → es ≡ fs
same_locations es fs he hf same =
    let m : Locations = table.from_sorted es in
    let n : Locations = table.from_sorted fs in
    let maps : m ≡ n = table.same_map nat_cmp_total table.nat_cmp-IsAntisymmetric m n
    (λ q. table.get-from_sorted nat_cmp es q he ∙ (same q ∙ sym (table.get-from_sorted nat_cmp fs q hf))) in
    sym (table.entries-from_sorted nat_cmp es he) ∙ (ap table.entries maps ∙ table.entries-from_sorted nat_cmp fs hf)
