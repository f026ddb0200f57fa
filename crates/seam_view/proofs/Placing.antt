-- What a search among numbers that rise finds.
use Rattle.std.proofs.Common.{◌≡◌, ◌<◌, ◌≤◌, ◌∷◌, [], ℕ, List, eqb, false, length, get_or, map, slice_get, Some, refl}
use Rattle.std.proofs.Common.{ap, ◌∙◌, arith}
use Rattle.std.specs.Result.{IfOk, IfErr}
use Rattle.std.specs.declared.result.Result.{Result}
use Rattle.std.specs.declared.result.Result.TheVariants.{Ok, Err}
use Rattle.std.specs.Ordering.{nat_cmp}
use Rattle.std.specs.List.{AllWithin, list_any, zip}
use Rattle.std.specs.List.Sorted.{IsBinarySearchResult, IsStrictlySortedBy}
use Rattle.std.specs.Map.{keys_of}
use Rattle.std.proofs.lemmas.List.{get_or_default}
use Rattle.std.proofs.lemmas.List.Sorted.{searched}
use Rattle.std.proofs.lemmas.Map.Keys.{non_decreasing_from_sorted}
use Rattle.std.proofs.lemmas.Option.{slice_get-get_or}
use Rattle.seam_view.proofs.Zipped.{absent_between}

module _ (xs : List ℕ) (e : ℕ) (rising : IsStrictlySortedBy nat_cmp xs) where
  never_falls : (i j : ℕ) → i ≤ j → j < length xs → get_or xs i 0 ≤ get_or xs j 0
  never_falls i j le lt = non_decreasing_from_sorted xs rising i j 0 le lt

  pub found_there : (r : Result ℕ ℕ) → IsBinarySearchResult (λ y. nat_cmp y e) xs r → IfOk r (λ i. slice_get xs i ≡ Some e)
  found_there (Ok i) h =
      let at = searched xs e (Ok i) h never_falls in
      slice_get-get_or xs i 0 at.0 ∙ ap (λ x. Some x) at.1
  found_there (Err i) h = tt

  pub within : (r : Result ℕ ℕ) → IsBinarySearchResult (λ y. nat_cmp y e) xs r → IfErr r (λ i. i ≤ length xs)
  within (Ok i) h = tt
  within (Err i) h = (searched xs e (Err i) h never_falls).0

  pub others_below : (r : Result ℕ ℕ) → IsBinarySearchResult (λ y. nat_cmp y e) xs r → IfErr r (λ i. AllWithin (λ x. x < e) xs 0 i)
  others_below (Ok i) h = tt
  others_below (Err i) h = λ k d low lt.
      let at = searched xs e (Err i) h never_falls in
      let some = at.0 in
      let less = at.1 k lt in
      let same = get_or_default xs k d 0 (omega (arith, lt, some)) in
      omega (arith, same, less)

  pub others_above : (r : Result ℕ ℕ) → IsBinarySearchResult (λ y. nat_cmp y e) xs r →
      IfErr r (λ i. AllWithin (λ x. e < x) xs i (length xs))
  others_above (Ok i) h = tt
  others_above (Err i) h = λ k d low lt.
      let at = searched xs e (Err i) h never_falls in
      let more = at.2 k low lt in
      let same = get_or_default xs k d 0 lt in
      omega (arith, same, more)

  pub not_found : (r : Result ℕ ℕ) → IsBinarySearchResult (λ y. nat_cmp y e) xs r → IfErr r (λ i. list_any (eqb e) xs ≡ false)
  not_found (Ok i) h = tt
  not_found (Err i) h = absent_between e i xs (others_below (Err i) h) (others_above (Err i) h)

-- pairs are their numbers beside their versions
pub zipped : (ps : List (ℕ × ℕ)) → zip (keys_of ps) (map (λ p. p.1) ps) ≡ ps
zipped [] = refl
zipped (p ∷ ps) = ap (λ qs. p ∷ qs) (zipped ps)
