-- A binary search by name, among names in strictly rising order, finds exactly the place of the name.
use Rattle.std.proofs.Common.{◌≡◌, ℕ, ◌+◌, ◌<◌, refl, ap, List, [], ◌∷◌, length, map, get_or, Bool, true, false, ◌&&◌, zero, suc, Some}
use Rattle.std.proofs.Common.{Result, Ok, Err, IfOk, inl, inr, arith}
use Rattle.std.specs.List.{list_all, slice_get}
use Rattle.std.specs.List.Sorted.{IsSearchInRange, IsBinarySearchResult, IsSortedBy}
use Rattle.std.specs.Ordering.{nat_cmp, is_lt, ordering_reverse}
use Rattle.std.specs.declared.cmp.Ordering.{Ordering}
use Rattle.std.specs.declared.cmp.Ordering.TheVariants.{Less, Equal, Greater}
use Rattle.std.specs.Cmp.{tied_itself}
use Rattle.std.specs.Cmp.Lexicographic.{slice_cmp}
use Rattle.std.proofs.lemmas.Bool.{cases_lt, cases_order}
use Rattle.std.proofs.lemmas.Cmp.{nat_list_cmp_total}
use Rattle.std.proofs.lemmas.Map.Lookups.{exact_bytes}
use Rattle.std.proofs.lemmas.List.Sorted.{searchable_from_sorted}
use Rattle.seam_defs.specs.Types.{is_name, is_before, are_rising}

pub and-left : (a b : Bool) → (a && b) ≡ true → a ≡ true
and-left true b h = refl
and-left false b h = cc

pub and-right : (a b : Bool) → (a && b) ≡ true → b ≡ true
and-right true b h = h
and-right false b h = cc

turned : (r s : Ordering) → r ≡ ordering_reverse s → is_lt r ≡ true → is_lt s ≡ false
turned r Less e h = cc
turned r Equal e h = refl
turned r Greater e h = refl

-- Less and Greater are turned into each other, so an order that is Less back is not Less
not-less-back : (a b : List ℕ) → is_before a b ≡ true → is_before b a ≡ false
not-less-back a b h = turned (slice_cmp nat_cmp a b) (slice_cmp nat_cmp b a) (nat_list_cmp_total.antisymm a b) h

-- no name comes before itself
not-before-itself : (n : List ℕ) → is_before n n ≡ true → ⊥
not-before-itself n h = let level = ap is_lt (tied_itself nat_list_cmp_total n) in cc

pub item : {X : Type 0} (xs : List X) (k : ℕ) → k < length xs → X
item [] k within = absurd (omega arith)
item (x ∷ xs) k within = x

module _ {X : Type 0} (key : X → List ℕ) where
  named : (xs : List X) (k : ℕ) (name : List ℕ) → slice_get (map key xs) k ≡ Some name →
      (k < length xs) × ((d : X) → key (get_or xs k d) ≡ name)
  named [] k name e = absurd cc
  named (x ∷ xs) zero name e = (omega arith, λ d. cc)
  named (x ∷ xs) (suc k) name e = let rest = named xs k name e in (omega arith, rest.1)

  named-back : (xs : List X) (k : ℕ) (name : List ℕ) → k < length xs → ((d : X) → key (get_or xs k d) ≡ name) →
      slice_get (map key xs) k ≡ Some name
  named-back [] k name within e = absurd (omega arith)
  named-back (x ∷ xs) zero name within e = ap Some (e x)
  named-back (x ∷ xs) (suc k) name within e = named-back xs k name (omega arith) e

  before_all : (n : List ℕ) (xs : List X) → list_all (is_before n) (map key xs) ≡ true → (j : ℕ) (d : X) → j < length xs →
      is_before n (key (get_or xs j d)) ≡ true
  before_all n [] h j d within = absurd (omega arith)
  before_all n (x ∷ xs) h zero d within = and-left (is_before n (key x)) (list_all (is_before n) (map key xs)) h
  before_all n (x ∷ xs) h (suc j) d within =
      before_all n xs (and-right (is_before n (key x)) (list_all (is_before n) (map key xs)) h) j d (omega arith)

  -- of two places the earlier one has the lesser name
  rising : (xs : List X) → are_rising (map key xs) ≡ true → (i j : ℕ) (d : X) → i < j → j < length xs →
      is_before (key (get_or xs i d)) (key (get_or xs j d)) ≡ true
  rising [] up i j d below within = absurd (omega arith)
  rising (x ∷ xs) up i zero d below within = absurd (omega arith)
  rising (x ∷ xs) up zero (suc j) d below within =
      before_all (key x) xs (and-right (is_name (key x)) (list_all (is_before (key x)) (map key xs))
      (and-left (is_name (key x) && list_all (is_before (key x)) (map key xs)) (are_rising (map key xs)) up)) j d (omega arith)
  rising (x ∷ xs) up (suc i) (suc j) d below within =
      rising xs (and-right (is_name (key x) && list_all (is_before (key x)) (map key xs)) (are_rising (map key xs)) up) i j d (omega arith)
      (omega arith)

  module _ (xs : List X) (up : are_rising (map key xs) ≡ true) (name : List ℕ) where
    not_two : (i j : ℕ) → i < j → slice_get (map key xs) i ≡ Some name → slice_get (map key xs) j ≡ Some name → ⊥
    not_two i j below at_i at_j =
        let first = named xs i name at_i in
        let second = named xs j name at_j in
        let d = item xs j second.0 in
        let before = rising xs up i j d below second.0 in
        not-before-itself name (rw (first.1 d, second.1 d) at before)

    -- two places of one name are one
    pub one_place : (i j : ℕ) → slice_get (map key xs) i ≡ Some name → slice_get (map key xs) j ≡ Some name → i ≡ j
    one_place i j at_i at_j =
        elim (cases_order i j) [
          | inl same ↦ same
          | inr apart ↦ elim apart [ inl below ↦ absurd (not_two i j below at_i at_j) | inr above ↦ absurd (not_two j i above at_j at_i) ]
        ]

    pub found_exactly : (r : Result ℕ ℕ) → IsSearchInRange r (length xs) → IsBinarySearchResult (λ x. slice_cmp nat_cmp (key x) name) xs r →
        IfOk r (λ k. slice_get (map key xs) k ≡ Some name) × ((k : ℕ) → slice_get (map key xs) k ≡ Some name → r ≡ Ok k)
    found_exactly (Ok at) within equal =
        let here : slice_get (map key xs) at ≡ Some name = named-back xs at name within (λ d. exact_bytes _ _ (equal d)) in
        (here, λ k there. ap Ok (one_place at k here there))
    found_exactly (Err at) within parted =
        let sorted : IsSortedBy (λ a b. is_lt (slice_cmp nat_cmp (key a) (key b))) xs =
        λ k d low high. not-less-back (key (get_or xs k d)) (key (get_or xs (k + 1) d)) (rising xs up k (k + 1) d (omega arith) high) in
        let split = parted (searchable_from_sorted nat_list_cmp_total key xs name sorted) in (
          tt,
          λ k there.
              let place = named xs k name there in
              let d = item xs k place.0 in
              let level : slice_cmp nat_cmp (key (get_or xs k d)) name ≡ Equal = rw (place.1 d) (tied_itself nat_list_cmp_total name) in
              elim (cases_lt k at) [
                | inl below ↦ let less : slice_cmp nat_cmp (key (get_or xs k d)) name ≡ Less = split.0 k d (omega arith) below in absurd cc
                | inr above ↦ let greater : slice_cmp nat_cmp (key (get_or xs k d)) name ≡ Greater = split.1 k d above place.0 in absurd cc
              ],
        )
