-- Those that left: the latest, and those settled, with one more among them, and the latest merged into the others.
use Rattle.std.proofs.Common.{◌≡◌, ◌<◌, ◌≤◌, ◌+◌, ◌-◌, ℕ, zero, suc, Bool, true, false, cond, eqb, List, [], ◌∷◌, ◌++◌, length}
use Rattle.std.proofs.Common.{get_or}
use Rattle.std.proofs.Common.{slice_get, Option, None, Some, is_some, take, drop, refl, sym, ap, subst, ◌∙◌, arith}
use Rattle.std.specs.Ordering.{nat_cmp}
use Rattle.std.specs.Option.{option_or}
use Rattle.std.specs.List.{AllWithin, IsDistinct, insert, list_any, zip}
use Rattle.std.specs.List.Sorted.{IsSorted, IsStrictlySortedBy}
use Rattle.std.specs.Map.{keys_of, lookup}
use Rattle.std.proofs.lemmas.List.{append_assoc, drop-drop, length-append, length-drop, length-take, map-id, get_or_append_left}
use Rattle.std.proofs.lemmas.List.{get_or-append_right, get_or-drop}
use Rattle.std.proofs.lemmas.List.{take-append-drop, get_or-take}
use Rattle.std.proofs.lemmas.Bool.{true≢false}
use Rattle.std.proofs.lemmas.Bool.Decides.{nat_tests}
use Rattle.std.proofs.lemmas.List.Folds.{list_any-append}
use Rattle.std.proofs.lemmas.List.Sorted.{IsNonDecreasingBy-from_sort}
use Rattle.std.proofs.lemmas.Map.Keys.{IsDistinct-head, IsDistinct-tail, IsStrictlyIncreasing-from_distinct}
use Rattle.std.proofs.lemmas.Map.Keys.{sorted_from_strictly_increasing, sorted_tail}
use Rattle.std.proofs.lemmas.Map.Keys.{any_passes_from_place}
use Rattle.std.proofs.Math.Seq.{get_or-append_seam, take-length}
use Rattle.seam_view.specs.Replica.{placed}
use Rattle.seam_view.specs.Departed.{AreApart}
use Rattle.seam_view.proofs.Numbers.{number_is, same_again}
use Rattle.seam_view.proofs.EnterOrder.{key_at, lookup_placed, placed_next}
use Rattle.seam_view.proofs.Shown.{sought}
use Rattle.seam_view.proofs.ByNumber.{rising_at, sorted_insert}
use Rattle.seam_view.proofs.Passing.{inserted_between, below_by_last, above_by_next}
use Rattle.seam_view.proofs.Zipped.{one_more_zipped, or_false_second}

-- ---- one leaves that is among those settled

module _ (latest settled : List (ℕ × ℕ)) (e v : ℕ) (apart : AreApart latest settled)
    (there : is_some (lookup (eqb e) settled) ≡ true) where
  set_by : (q : ℕ) (b : Bool) → eqb e q ≡ b → option_or (lookup (eqb q) latest) (cond b (Some v) (lookup (eqb q) settled))
      ≡ cond b (Some v) (option_or (lookup (eqb q) latest) (lookup (eqb q) settled))
  set_by q true t = ap (λ o. option_or o (Some v)) (ap (λ x. lookup (eqb x) latest) (sym (number_is e q t)) ∙ apart e there)
  set_by q false t = refl

  pub found_when_set : (q : ℕ) → lookup (eqb q) (latest ++ placed e v settled)
      ≡ cond (eqb e q) (Some v) (lookup (eqb q) (latest ++ settled))
  found_when_set q =
      sought q latest (placed e v settled)
      ∙ (ap (option_or (lookup (eqb q) latest)) (lookup_placed e v q settled)
      ∙ (set_by q (eqb e q) refl ∙ ap (cond (eqb e q) (Some v)) (sym (sought q latest settled))))

  apart_by : (q : ℕ) (b : Bool) → eqb e q ≡ b → is_some (cond b (Some v) (lookup (eqb q) settled)) ≡ true →
      lookup (eqb q) latest ≡ None
  apart_by q true t h = ap (λ x. lookup (eqb x) latest) (sym (number_is e q t)) ∙ apart e there
  apart_by q false t h = apart q h

  pub apart_when_set : AreApart latest (placed e v settled)
  apart_when_set = λ q h. apart_by q (eqb e q) refl (sym (ap is_some (lookup_placed e v q settled)) ∙ h)

-- ---- one leaves that is not

module _ (latest new settled : List (ℕ × ℕ)) (e v : ℕ) (apart : AreApart latest settled)
    (none : lookup (eqb e) settled ≡ None)
    (up : (q : ℕ) → lookup (eqb q) new ≡ cond (eqb e q) (Some v) (lookup (eqb q) latest)) where
  put_by : (b : Bool) (o p : Option ℕ) → option_or (cond b (Some v) o) p ≡ cond b (Some v) (option_or o p)
  put_by true o p = refl
  put_by false o p = refl

  pub found_when_put : (q : ℕ) → lookup (eqb q) (new ++ settled) ≡ cond (eqb e q) (Some v) (lookup (eqb q) (latest ++ settled))
  found_when_put q =
      sought q new settled
      ∙ (ap (λ o. option_or o (lookup (eqb q) settled)) (up q)
      ∙ (put_by (eqb e q) (lookup (eqb q) latest) (lookup (eqb q) settled)
      ∙ ap (cond (eqb e q) (Some v)) (sym (sought q latest settled))))

  put_apart_by : (q : ℕ) (b : Bool) → eqb e q ≡ b → is_some (lookup (eqb q) settled) ≡ true →
      cond b (Some v) (lookup (eqb q) latest) ≡ None
  put_apart_by q true t h =
      let gone : is_some (lookup (eqb q) settled) ≡ false =
      ap is_some (ap (λ x. lookup (eqb x) settled) (sym (number_is e q t)) ∙ none) in
      absurd (let f = sym h ∙ gone in cc)
  put_apart_by q false t h = apart q h

  pub apart_when_put : AreApart new settled
  apart_when_put = λ q h. up q ∙ put_apart_by q (eqb e q) refl h

-- ---- the latest in rising number

pub rising_from_sort : (ks : List ℕ) → IsSorted nat_cmp ks → IsDistinct eqb ks → IsStrictlySortedBy nat_cmp ks
rising_from_sort ks sorted once =
    sorted_from_strictly_increasing ks (IsStrictlyIncreasing-from_distinct ks (IsNonDecreasingBy-from_sort (λ x. x) ks sorted) once)

-- ---- one of them is merged

put_first : (b : Bool) (v : ℕ) (o p : Option ℕ) → cond b (Some v) (option_or o p) ≡ option_or (cond b (Some v) o) p
put_first true v o p = refl
put_first false v o p = refl

pub found_when_merged : (es ls : List (ℕ × ℕ)) (i : ℕ) (d : ℕ × ℕ) (old new : ℕ → Option ℕ) → IsDistinct eqb (keys_of es) →
    i < length es →
    ((q : ℕ) → old q ≡ lookup (eqb q) (take i es ++ ls)) →
    ((q : ℕ) → new q ≡ cond (eqb (get_or es i d).0 q) (Some (get_or es i d).1) (old q)) →
    (q : ℕ) → new q ≡ lookup (eqb q) (take (i + 1) es ++ ls)
found_when_merged es ls i d old new once lt was is q =
    let e = (get_or es i d).0 in
    let v = (get_or es i d).1 in
    is q
    ∙ (ap (cond (eqb e q) (Some v)) (was q ∙ sought q (take i es) ls)
    ∙ (put_first (eqb e q) v (lookup (eqb q) (take i es)) (lookup (eqb q) ls)
    ∙ (ap (λ o. option_or o (lookup (eqb q) ls))
    (sym (lookup_placed e v q (take i es)) ∙ ap (lookup (eqb q)) (placed_next es i d once lt))
    ∙ sym (sought q (take (i + 1) es) ls))))

not_before : (es : List (ℕ × ℕ)) (i : ℕ) (d : ℕ × ℕ) → IsDistinct eqb (keys_of es) → i < length es →
    lookup (eqb (get_or es i d).0) (take i es) ≡ None
not_before [] i d once lt = absurd (omega (arith, lt))
not_before (p ∷ es) zero d once lt = refl
not_before (p ∷ es) (suc i) d once lt =
    ap (λ b. cond b (Some p.1) (lookup (eqb (get_or es i d).0) (take i es)))
    (key_at p.0 es i d (IsDistinct-head eqb p.0 (keys_of es) once) (omega (arith, lt)))
    ∙ not_before es i d (IsDistinct-tail eqb p.0 (keys_of es) once) (omega (arith, lt))

none_by : (o : Option ℕ) (es : List (ℕ × ℕ)) (e v : ℕ) → lookup (eqb e) es ≡ Some v →
    (is_some o ≡ true → lookup (eqb e) es ≡ None) → o ≡ None
none_by None es e v there h = refl
none_by (Some x) es e v there h = absurd (let f = sym there ∙ h refl in cc)

-- the next of them is neither among those merged before it nor among those settled
pub not_merged_yet : (es ls : List (ℕ × ℕ)) (i : ℕ) (d : ℕ × ℕ) → IsDistinct eqb (keys_of es) → i < length es → AreApart es ls →
    lookup (eqb (get_or es i d).0) es ≡ Some (get_or es i d).1 →
    lookup (eqb (get_or es i d).0) (take i es ++ ls) ≡ None
not_merged_yet es ls i d once lt apart there =
    let e = (get_or es i d).0 in
    sought e (take i es) ls
    ∙ (λ j. option_or (not_before es i d once lt j)
    (none_by (lookup (eqb e) ls) es e (get_or es i d).1 there (apart e) j))

-- ---- those made, and those to come

-- so many more are made: all are still there
pub same_when_passed : (xs ys : List ℕ) (i n : ℕ) → (xs ++ take n (drop i ys)) ++ drop (i + n) ys ≡ xs ++ drop i ys
same_when_passed xs ys i n =
    append_assoc xs (take n (drop i ys)) (drop (i + n) ys)
    ∙ ap (λ zs. xs ++ zs) (ap (λ zs. take n (drop i ys) ++ zs) (sym (drop-drop n i ys)) ∙ take-append-drop n (drop i ys))

above_zero : (n : ℕ) → eqb n 0 ≡ false → 0 < n
above_zero n t = grind (arith, nat_tests)

module _ (xs ys : List ℕ) (i n e : ℕ) (within : n ≤ length (drop i ys))
    (below : AllWithin (λ y. y < e) (drop i ys) 0 n) (above : AllWithin (λ y. e < y) (drop i ys) n (length (drop i ys)))
    (last : 0 < length xs → get_or xs (length xs - 1) 0 < e) where
  many : length (xs ++ take n (drop i ys)) ≡ length xs + n
  many =
      let a = length-append xs (take n (drop i ys)) in
      let b = length-take n (drop i ys) in
      omega (arith, a, b, within)

  none_more : eqb n 0 ≡ true → 0 < length (xs ++ take n (drop i ys)) →
      get_or (xs ++ take n (drop i ys)) (length (xs ++ take n (drop i ys)) - 1) 0 < e
  none_more t some =
      let zero_more = number_is n 0 t in
      let long = many in
      let place : length (xs ++ take n (drop i ys)) - 1 ≡ length xs - 1 = omega (arith, zero_more, long) in
      let held : 0 < length xs = omega (arith, zero_more, long, some) in
      let same : get_or (xs ++ take n (drop i ys)) (length (xs ++ take n (drop i ys)) - 1) 0 ≡ get_or xs (length xs - 1) 0 =
      ap (λ k. get_or (xs ++ take n (drop i ys)) k 0) place
      ∙ get_or_append_left xs (take n (drop i ys)) 0 (length xs - 1) (omega (arith, held)) in
      let less = last held in
      omega (arith, same, less)

  some_more : 0 < n → get_or (xs ++ take n (drop i ys)) (length (xs ++ take n (drop i ys)) - 1) 0 < e
  some_more more =
      let long = many in
      let k = length (xs ++ take n (drop i ys)) - 1 in
      let place : k - length xs ≡ n - 1 = omega (arith, long, more) in
      let same : get_or (xs ++ take n (drop i ys)) k 0 ≡ get_or (drop i ys) (n - 1) 0 =
      get_or-append_right xs (take n (drop i ys)) (length xs) k 0 refl (omega (arith, long, more))
      ∙ (ap (λ j. get_or (take n (drop i ys)) j 0) place ∙ get_or-take n (drop i ys) (n - 1) 0 (omega (arith, more))) in
      let less = below (n - 1) 0 (omega arith) (omega (arith, more)) in
      omega (arith, same, less)

  -- the last of those made is below e
  pub last_below : 0 < length (xs ++ take n (drop i ys)) →
      get_or (xs ++ take n (drop i ys)) (length (xs ++ take n (drop i ys)) - 1) 0 < e
  last_below some =
      elim (eqb n 0) as (λ b. eqb n 0 ≡ b → get_or (xs ++ take n (drop i ys)) (length (xs ++ take n (drop i ys)) - 1) 0 < e) [
        | true ↦ λ t. none_more t some
        | false ↦ λ t. some_more (above_zero n t)
      ] refl

  -- and the next of those to come is above it
  pub next_above : i + n < length ys → e < get_or ys (i + n) 0
  next_above lt =
      let left = length-drop i ys in
      let a = above n 0 (omega arith) (omega (arith, lt, left)) in
      let same = get_or-drop i ys n 0 in
      omega (arith, a, same)

  -- with e made after them, all still rise
  pub rising_when_added : IsStrictlySortedBy nat_cmp (xs ++ drop i ys) →
      IsStrictlySortedBy nat_cmp (((xs ++ take n (drop i ys)) ++ e ∷ []) ++ drop (i + n) ys)
  rising_when_added rising =
      let new = xs ++ take n (drop i ys) in
      let all = new ++ drop (i + n) ys in
      let risen = subst (IsStrictlySortedBy nat_cmp) (sym (map-id all))
      (subst (IsStrictlySortedBy nat_cmp) (sym (same_when_passed xs ys i n)) rising) in
      let never_falls = rising_at (λ x. x) all risen in
      subst (IsStrictlySortedBy nat_cmp) (ap (λ ks. insert ks (length new) e) (map-id all) ∙ inserted_between new (drop (i + n) ys) e)
      (sorted_insert (λ x. x) e all (length new) risen (below_by_last (λ x. x) e new ys (i + n) never_falls last_below)
      (above_by_next (λ x. x) e new ys (i + n) never_falls next_above))

-- as many versions are made and to come as entities
pub as_many_versions : (xs ws ys vs : List ℕ) (i : ℕ) → length ws ≡ length xs → length vs ≡ length ys →
    length (ws ++ drop i vs) ≡ length (xs ++ drop i ys)
as_many_versions xs ws ys vs i made all =
    let a = length-append ws (drop i vs) in
    let b = length-append xs (drop i ys) in
    let c = length-drop i vs in
    let d = length-drop i ys in
    omega (arith, a, b, c, d, made, all)

pub found_when_added : (xs ws ys vs : List ℕ) (i n e v : ℕ) → length ws ≡ length xs → length vs ≡ length ys →
    list_any (eqb e) (xs ++ drop i ys) ≡ false → (q : ℕ) →
    lookup (eqb q) (zip (((xs ++ take n (drop i ys)) ++ e ∷ []) ++ drop (i + n) ys)
    (((ws ++ take n (drop i vs)) ++ v ∷ []) ++ drop (i + n) vs))
    ≡ cond (eqb e q) (Some v) (lookup (eqb q) (zip (xs ++ drop i ys) (ws ++ drop i vs)))
found_when_added xs ws ys vs i n e v made all absent q =
    let new = xs ++ take n (drop i ys) in
    let with = ws ++ take n (drop i vs) in
    let place : length with ≡ length new =
    (let a = length-append ws (take n (drop i vs)) in
    let b = length-append xs (take n (drop i ys)) in
    let c = length-take n (drop i vs) in
    let d = length-take n (drop i ys) in
    let f = length-drop i vs in
    let g = length-drop i ys in
    omega (arith, a, b, c, d, f, g, made, all)) in
    (λ j. lookup (eqb q) (zip (sym (inserted_between new (drop (i + n) ys) e) j) (sym (inserted_between with (drop (i + n) vs) v) j)))
    ∙ ((λ j. lookup (eqb q) (zip (insert (same_when_passed xs ys i n j) (length new) e)
    (insert (same_when_passed ws vs i n j) (place j) v)))
    ∙ one_more_zipped q e v (length new) (xs ++ drop i ys) (ws ++ drop i vs) (as_many_versions xs ws ys vs i made all) absent)

-- one that is neither made nor to come is at no place of those to come
pub none_to_come : (xs zs : List ℕ) (e r : ℕ) → list_any (eqb e) (xs ++ zs) ≡ false → slice_get zs r ≡ Some e → ⊥
none_to_come xs zs e r absent at =
    let among = any_passes_from_place (eqb e) zs r e at (same_again e) in
    let both = sym (list_any-append (eqb e) xs zs) ∙ absent in
    let late = or_false_second (list_any (eqb e) xs) (list_any (eqb e) zs) both in
    let f = sym among ∙ late in
    true≢false f

-- the one that was made last
pub made_last : (xs : List ℕ) (e : ℕ) → get_or (xs ++ e ∷ []) (length (xs ++ e ∷ []) - 1) 0 ≡ e
made_last xs e =
    let a = length-append xs (e ∷ []) in
    let place : length (xs ++ e ∷ []) - 1 ≡ length xs = omega (arith, a) in
    ap (λ k. get_or (xs ++ e ∷ []) k 0) place ∙ get_or-append_seam xs e [] 0

-- ---- those to come

pub none_rising : IsStrictlySortedBy nat_cmp []
unfolding IsStrictlySortedBy
none_rising = tt

pub rising_past : (n : ℕ) (ks : List ℕ) → IsStrictlySortedBy nat_cmp ks → IsStrictlySortedBy nat_cmp (drop n ks)
rising_past zero ks h = h
rising_past (suc n) [] h = h
rising_past (suc n) (k ∷ ks) h = rising_past n ks (sorted_tail nat_cmp k ks h)

-- the part of the list from a place on, as a slice of it
pub slice_past : (i : ℕ) (xs ys : List ℕ) → xs ≡ ys → take (length xs - i) (drop i xs) ≡ drop i ys
slice_past i xs ys is = ap (λ n. take n (drop i xs)) (sym (length-drop i xs)) ∙ (take-length (drop i xs) ∙ ap (drop i) is)

-- as many versions are made as entities, also with one more
pub as_many_made : (xs ws ys vs : List ℕ) (i n e v : ℕ) → length ws ≡ length xs → length vs ≡ length ys →
    length ((ws ++ take n (drop i vs)) ++ v ∷ []) ≡ length ((xs ++ take n (drop i ys)) ++ e ∷ [])
as_many_made xs ws ys vs i n e v made all =
    let a = length-append ws (take n (drop i vs)) in
    let b = length-append xs (take n (drop i ys)) in
    let c = length-take n (drop i vs) in
    let d = length-take n (drop i ys) in
    let f = length-drop i vs in
    let g = length-drop i ys in
    let h = length-append (ws ++ take n (drop i vs)) (v ∷ []) in
    let k = length-append (xs ++ take n (drop i ys)) (e ∷ []) in
    omega (arith, a, b, c, d, f, g, h, k, made, all)

-- where those to come begin after one more
pub within_past : (i n : ℕ) (ys : List ℕ) → i ≤ length ys → n ≤ length (drop i ys) → i + n ≤ length ys
within_past i n ys le more = let a = length-drop i ys in omega (arith, a, le, more)
