-- Places in rising number, as they are passed one by one, and where one more comes between them.
use Rattle.std.proofs.Common.{◌≡◌, ◌<◌, ◌≤◌, ◌+◌, ◌-◌, ℕ, suc, false, eqb, List, [], ◌∷◌, ◌++◌, length, drop, get_or}
use Rattle.std.proofs.Common.{sym, ap, ◌∙◌, subst, arith}
use Rattle.std.specs.List.{AllWithin, insert, list_any}
use Rattle.std.specs.List.Sorted.{IsNonDecreasingBy}
use Rattle.std.specs.Map.{keys_of}
use Rattle.std.proofs.lemmas.List.{append_assoc, length-append, length-drop, get_or_append_left}
use Rattle.std.proofs.Math.Seq.{drop-cons, take-append_seam, drop-append_seam, get_or-append_seam}
use Rattle.seam_view.specs.declared.numbered.Slot.{Slot}
use Rattle.seam_view.specs.ByNumber.{IsByNumber, entries_of}
use Rattle.seam_view.proofs.ByNumber.{rising_at, all_below, all_strictly_above, many_slots, not_among, with_one_more}

-- the one at i is passed: all are still there
module _ (xs ys : List ℕ) (i x : ℕ) (lt : i < length ys) (at : x ≡ get_or ys i x) where
  pub parted : drop i ys ≡ x ∷ drop (i + 1) ys
  parted =
      let more : suc i ≡ i + 1 = omega arith in
      drop-cons ys i x lt ∙ (λ j. sym at j ∷ drop (more j) ys)

  pub one_passed : (xs ++ x ∷ []) ++ drop (i + 1) ys ≡ xs ++ drop i ys
  one_passed = append_assoc xs (x ∷ []) (drop (i + 1) ys) ∙ ap (λ zs. xs ++ zs) (sym parted)

  -- and all those passed have numbers below e, where it has
  pub passed_below : (f : ℕ → ℕ) (e : ℕ) (new : List ℕ) → new ≡ xs ++ x ∷ [] → f x < e →
      AllWithin (λ y. f y < e) (xs ++ drop i ys) 0 (length xs) →
      AllWithin (λ y. f y < e) (new ++ drop (i + 1) ys) 0 (length new)
  passed_below f e new is below h k d low last =
      let same : f (get_or (new ++ drop (i + 1) ys) k d) ≡ f (get_or (xs ++ drop i ys) k d) =
      ap (λ zs. f (get_or zs k d)) (ap (λ n. n ++ drop (i + 1) ys) is ∙ one_passed) in
      let many = ap length is ∙ length-append xs (x ∷ []) in
      let n = length xs in
      let first : k < n → e ≤ f (get_or (new ++ drop (i + 1) ys) k d) → ⊥ = λ l le. (let b = h k d low l in omega (arith, same, b, le)) in
      let next : n ≤ k → e ≤ f (get_or (new ++ drop (i + 1) ys) k d) → ⊥ = λ l le.
      (let here : k ≡ n = omega (arith, l, last, many) in
      let there : f (get_or (xs ++ drop i ys) k d) ≡ f x =
      (λ j. f (get_or (xs ++ parted j) (here j) d)) ∙ ap f (get_or-append_seam xs x (drop (i + 1) ys) d) in
      omega (arith, same, there, below, le)) in
      let out : e ≤ f (get_or (new ++ drop (i + 1) ys) k d) → ⊥ = λ le.
      (let a : k < n → ⊥ = λ l. first l le in
      let b : n ≤ k → ⊥ = λ l. next l le in
      omega (arith, a, b)) in
      omega (arith, out)

-- one more comes between those passed and those to come
pub inserted_between : (xs ys : List ℕ) (x : ℕ) → insert (xs ++ ys) (length xs) x ≡ (xs ++ x ∷ []) ++ ys
inserted_between xs ys x =
    (λ j. take-append_seam xs ys j ++ x ∷ drop-append_seam xs ys j) ∙ sym (append_assoc xs (x ∷ []) ys)

-- those passed have numbers below e where the last of them has, and those to come have numbers above it where the next one has
module _ (f : ℕ → ℕ) (e : ℕ) (xs ys : List ℕ) (i : ℕ) (rising : IsNonDecreasingBy f (xs ++ drop i ys)) where
  pub below_by_last : (0 < length xs → f (get_or xs (length xs - 1) 0) < e) → AllWithin (λ x. f x < e) (xs ++ drop i ys) 0 (length xs)
  below_by_last last k d low lt =
      let some : 0 < length xs = omega (arith, lt) in
      let n = length xs - 1 in
      let within : n < length xs = omega (arith, some) in
      let same = ap f (get_or_append_left xs (drop i ys) 0 n within) in
      let less = last some in
      let many = length-append xs (drop i ys) in
      all_below f (xs ++ drop i ys) n e 0 rising (omega (arith, within, many)) (omega (arith, same, less)) k d low (omega (arith, lt, some))

  pub above_by_next : (i < length ys → e < f (get_or ys i 0)) →
      AllWithin (λ x. e < f x) (xs ++ drop i ys) (length xs) (length (xs ++ drop i ys))
  above_by_next next k d low lt =
      let many = length-append xs (drop i ys) in
      let left = length-drop i ys in
      let some : i < length ys = omega (arith, low, lt, many, left) in
      let same : f (get_or (xs ++ drop i ys) (length xs) 0) ≡ f (get_or ys i 0) =
      ap f (ap (λ zs. get_or (xs ++ zs) (length xs) 0) (drop-cons ys i 0 some)
      ∙ get_or-append_seam xs (get_or ys i 0) (drop (suc i) ys) 0) in
      let more = next some in
      all_strictly_above f (xs ++ drop i ys) (length xs) e 0 rising (omega (arith, low, lt)) (omega (arith, same, more)) k d low lt

-- one comes between them, and is the last of the entities
module _ (slots : List Slot) (e : ℕ) (xs ys : List ℕ) (i : ℕ) (held : IsByNumber (keys_of (entries_of slots)) (xs ++ drop i ys))
    (below : AllWithin (λ k. get_or (keys_of (entries_of slots)) k 0 < e) (xs ++ drop i ys) 0 (length xs))
    (next : i < length ys → e < get_or (keys_of (entries_of slots)) (get_or ys i 0) 0) where
  above : AllWithin (λ k. e < get_or (keys_of (entries_of slots)) k 0) (xs ++ drop i ys) (length xs) (length (xs ++ drop i ys))
  above =
      let f : ℕ → ℕ = λ k. get_or (keys_of (entries_of slots)) k 0 in
      above_by_next f e xs ys i (rising_at f (xs ++ drop i ys) held.rising) next

  pub not_in_slots : list_any (λ p. eqb e p.0) (entries_of slots) ≡ false
  not_in_slots = not_among (entries_of slots) (xs ++ drop i ys) e (length xs) held below above

  pub one_between : length slots < 0xffff_ffff →
      IsByNumber (keys_of (entries_of slots) ++ e ∷ []) ((xs ++ length slots ∷ []) ++ drop i ys)
  one_between few =
      let ks = keys_of (entries_of slots) in
      let many = many_slots slots in
      subst (IsByNumber (ks ++ e ∷ []))
      (inserted_between xs (drop i ys) (length ks) ∙ ap (λ n. (xs ++ n ∷ []) ++ drop i ys) many)
      (with_one_more ks (xs ++ drop i ys) e (length xs) held (omega (arith, few, many)) below above)
