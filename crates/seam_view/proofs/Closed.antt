-- Slots close up where others have left, and the places by number with them.
use Rattle.std.proofs.Common.{◌≡◌, ◌≢◌, ◌<◌, ◌≤◌, ◌+◌, ◌-◌, ℕ, zero, suc, Bool, true, false, not, cond, ◌||◌, eqb, List, [], ◌∷◌, map}
use Rattle.std.proofs.Common.{length}
use Rattle.std.proofs.Common.{get_or, refl, sym, ap, ◌∙◌, subst, arith}
use Rattle.std.specs.Bool.{MatchBool}
use Rattle.std.specs.Ordering.{nat_cmp}
use Rattle.std.specs.declared.cmp.Ordering.TheVariants.{Less}
use Rattle.std.specs.List.{AllByRecursion, IsDistinct, filter, list_any}
use Rattle.std.specs.List.Retain.{RetainsInTurn}
use Rattle.std.specs.List.Sorted.{IsStrictlySortedBy}
use Rattle.std.specs.Map.{keys_of}
use Rattle.std.proofs.lemmas.Map.Keys.{IsDistinct-head, IsDistinct-tail, IsDistinct-cons, sorted_head, sorted_tail}
use Rattle.std.proofs.lemmas.Bool.Decides.{nat_tests}
use Rattle.seam_view.specs.declared.numbered.Slot.{Slot}
use Rattle.seam_view.specs.ByNumber.{IsByNumber, GoInOrder, entries_of, stays, nowhere}
use Rattle.seam_view.proofs.ByNumber.{many_slots, sorted_cons}
use Rattle.seam_view.proofs.Numbers.{number_is, same_again, or_second}

-- ---- the places that the pass leaves

abbrev pub is_place : ℕ → Bool
is_place i = not (eqb i nowhere)

module _ {F : Type 0} (R : F → ℕ → Bool → F → ℕ → Type 0) (to : ℕ → ℕ) (Same : F → Type 0)
    (says : (f : F) (x : ℕ) (b : Bool) (g : F) (y : ℕ) → Same f → R f x b g y → (y ≡ to x) × (b ≡ is_place y) × Same g) where
  pub renumbered : (f : F) → Same f → (xs ys : List ℕ) → RetainsInTurn R f xs ys → ys ≡ filter is_place (map to xs)
  renumbered f same [] ys h = h
  renumbered f same (x ∷ xs) ys h =
      let s = says f x h.0 h.1 h.2 same h.3 in
      let rest = renumbered h.1 s.2 xs h.4 h.5 in
      h.6 ∙ ((λ i. cond (s.1 i) (h.2 ∷ rest i) (rest i))
      ∙ ap (λ y. cond (is_place y) (y ∷ filter is_place (map to xs)) (filter is_place (map to xs))) s.0)

-- ---- where the slots go

abbrev entities : List Slot → List ℕ
entities slots = keys_of (entries_of slots)

abbrev pub to_of : List Slot → ℕ → ℕ
to_of slots i = get_or (map (λ s. s.to) slots) i nowhere

-- one that goes to the place t, of those from n on, is there once they have closed up
abbrev Arrives : ℕ → List Slot → ℕ → ℕ → Type 0
Arrives n kept t e = (n ≤ t) × (t < n + length kept) × (get_or (entities kept) (t - n) 0 ≡ e)

past_first : (n : ℕ) (s : Slot) (kept : List Slot) (t e : ℕ) → Arrives (n + 1) kept t e → Arrives n (s ∷ kept) t e
past_first n s kept t e h =
    let low = h.0 in
    let high = h.1 in
    let more : t - n ≡ suc (t - (n + 1)) = omega (arith, low) in
    (omega (arith, low), omega (arith, high), ap (λ j. get_or (entities (s ∷ kept)) j 0) more ∙ h.2)

arrives_by : (n : ℕ) (s : Slot) (slots : List Slot) (p : ℕ) (b : Bool) → stays s ≡ b →
    MatchBool b ((s.to ≡ n) × GoInOrder (n + 1) slots) (GoInOrder n slots) → p < length (s ∷ slots) →
    is_place (to_of (s ∷ slots) p) ≡ true →
    ((m q : ℕ) → GoInOrder m slots → q < length slots → is_place (to_of slots q) ≡ true →
    Arrives m (filter stays slots) (to_of slots q) (get_or (entities slots) q 0)) →
    Arrives n (cond b (s ∷ filter stays slots) (filter stays slots)) (to_of (s ∷ slots) p) (get_or (entities (s ∷ slots)) p 0)
arrives_by n s slots zero true t order lt placed rest =
    let is = order.0 in
    let first : s.to - n ≡ 0 = omega (arith, is) in
    (omega (arith, is), omega (arith, is), ap (λ j. get_or (entities (s ∷ filter stays slots)) j 0) first)
arrives_by n s slots (suc p) true t order lt placed rest =
    past_first n s (filter stays slots) (to_of slots p) (get_or (entities slots) p 0) (rest (n + 1) p order.1 (omega (arith, lt)) placed)
arrives_by n s slots zero false t order lt placed rest = cc
arrives_by n s slots (suc p) false t order lt placed rest = rest n p order (omega (arith, lt)) placed

arrives : (slots : List Slot) (n p : ℕ) → GoInOrder n slots → p < length slots → is_place (to_of slots p) ≡ true →
    Arrives n (filter stays slots) (to_of slots p) (get_or (entities slots) p 0)
arrives [] n p order lt placed = absurd (omega (arith, lt))
arrives (s ∷ slots) n p order lt placed = arrives_by n s slots p (stays s) refl order lt placed (arrives slots)

-- one comes to each place
abbrev Comes : List Slot → ℕ → Type 0
Comes slots j = (p : ℕ) × (p < length slots) × (to_of slots p ≡ j) × (is_place (to_of slots p) ≡ true)

comes_later : (s : Slot) (slots : List Slot) (j : ℕ) → Comes slots j → Comes (s ∷ slots) j
comes_later s slots j h = let lt = h.1 in (suc h.0, omega (arith, lt), h.2, h.3)

comes_by : (n : ℕ) (s : Slot) (slots : List Slot) (j : ℕ) (b : Bool) → stays s ≡ b →
    MatchBool b ((s.to ≡ n) × GoInOrder (n + 1) slots) (GoInOrder n slots) → n ≤ j →
    j < n + length (cond b (s ∷ filter stays slots) (filter stays slots)) →
    ((m : ℕ) → GoInOrder m slots → m ≤ j → j < m + length (filter stays slots) → Comes slots j) → Comes (s ∷ slots) j
comes_by n s slots j false t order low high rest = comes_later s slots j (rest n order low high)
comes_by n s slots j true t order low high rest = first (eqb j n) refl
  where
    first : (c : Bool) → eqb j n ≡ c → Comes (s ∷ slots) j
    first true same = (zero, omega arith, order.0 ∙ sym (number_is j n same), t)
    first false other =
        let differs : j ≢ n = (λ q. (let s : eqb j n ≡ true = grind (arith, nat_tests) in cc)) in
        comes_later s slots j (rest (n + 1) order.1 (omega (arith, differs, low)) (omega (arith, high)))

comes : (slots : List Slot) (n j : ℕ) → GoInOrder n slots → n ≤ j → j < n + length (filter stays slots) → Comes slots j
comes [] n j order low high = absurd (omega (arith, low, high))
comes (s ∷ slots) n j order low high =
    comes_by n s slots j (stays s) refl order low high (λ m o l h. comes slots m j o l h)

-- ---- those that stay

fewer : (slots : List Slot) → length (filter stays slots) ≤ length slots
fewer [] = omega arith
fewer (s ∷ slots) = fewer_by (stays s) (fewer slots)
  where
    fewer_by : (b : Bool) → length (filter stays slots) ≤ length slots →
        length (cond b (s ∷ filter stays slots) (filter stays slots)) ≤ length (s ∷ slots)
    fewer_by true h = omega (arith, h)
    fewer_by false h = omega (arith, h)

absent_among : (e : ℕ) (slots : List Slot) → AllByRecursion (λ y. eqb e y ≡ false) (entities slots) →
    AllByRecursion (λ y. eqb e y ≡ false) (entities (filter stays slots))
absent_among e [] h = tt
absent_among e (s ∷ slots) h =
    elim (stays s) as (λ b. AllByRecursion (λ y. eqb e y ≡ false) (entities (cond b (s ∷ filter stays slots) (filter stays slots)))) [
      | true ↦ (h.0, absent_among e slots h.1)
      | false ↦ absent_among e slots h.1
    ]

once_among : (slots : List Slot) → IsDistinct eqb (entities slots) → IsDistinct eqb (entities (filter stays slots))
once_among [] u = u
once_among (s ∷ slots) u =
    let rest = once_among slots (IsDistinct-tail eqb s.entity (entities slots) u) in
    elim (stays s) as (λ b. IsDistinct eqb (entities (cond b (s ∷ filter stays slots) (filter stays slots)))) [
      | true ↦ IsDistinct-cons eqb s.entity (entities (filter stays slots))
          (absent_among s.entity slots (IsDistinct-head eqb s.entity (entities slots) u)) rest
      | false ↦ rest
    ]

-- ---- the places by number

module _ (slots : List Slot) (order : GoInOrder 0 slots) where
  abbrev Kept : List ℕ
  Kept = entities (filter stays slots)

  abbrev new_places : List ℕ → List ℕ
  new_places places = filter is_place (map (to_of slots) places)

  abbrev Within : List ℕ → Type 0
  Within places = AllByRecursion (λ i. i < length (entities slots)) places

  at_new_place : (i : ℕ) → i < length (entities slots) → is_place (to_of slots i) ≡ true →
      (to_of slots i < length Kept) × (get_or Kept (to_of slots i) 0 ≡ get_or (entities slots) i 0)
  at_new_place i lt placed =
      let many = many_slots slots in
      let few = many_slots (filter stays slots) in
      let h = arrives slots 0 i order (omega (arith, lt, many)) placed in
      let high = h.1 in
      let same : to_of slots i - 0 ≡ to_of slots i = omega arith in
      (omega (arith, high, few), ap (λ j. get_or Kept j 0) (sym same) ∙ h.2)

  within_by : (x : ℕ) (xs : List ℕ) (b : Bool) → is_place (to_of slots x) ≡ b → x < length (entities slots) →
      AllByRecursion (λ i. i < length Kept) (new_places xs) →
      AllByRecursion (λ i. i < length Kept) (cond b (to_of slots x ∷ new_places xs) (new_places xs))
  within_by x xs true t lt rest = ((at_new_place x lt t).0, rest)
  within_by x xs false t lt rest = rest

  new_within : (xs : List ℕ) → Within xs → AllByRecursion (λ i. i < length Kept) (new_places xs)
  new_within [] w = tt
  new_within (x ∷ xs) w = within_by x xs (is_place (to_of slots x)) refl w.0 (new_within xs w.1)

  all_by : (P : ℕ → Type 0) (x : ℕ) (xs : List ℕ) (b : Bool) → is_place (to_of slots x) ≡ b → x < length (entities slots) →
      P (get_or (entities slots) x 0) → AllByRecursion P (map (λ i. get_or Kept i 0) (new_places xs)) →
      AllByRecursion P (map (λ i. get_or Kept i 0) (cond b (to_of slots x ∷ new_places xs) (new_places xs)))
  all_by P x xs true t lt p rest = (subst P (sym (at_new_place x lt t).1) p, rest)
  all_by P x xs false t lt p rest = rest

  new_all : (P : ℕ → Type 0) (xs : List ℕ) → Within xs → AllByRecursion P (map (λ i. get_or (entities slots) i 0) xs) →
      AllByRecursion P (map (λ i. get_or Kept i 0) (new_places xs))
  new_all P [] w h = tt
  new_all P (x ∷ xs) w h = all_by P x xs (is_place (to_of slots x)) refl w.0 h.0 (new_all P xs w.1 h.1)

  rising_by : (x : ℕ) (xs : List ℕ) (b : Bool) → is_place (to_of slots x) ≡ b → x < length (entities slots) →
      AllByRecursion (λ y. nat_cmp (get_or (entities slots) x 0) y ≡ Less) (map (λ i. get_or Kept i 0) (new_places xs)) →
      IsStrictlySortedBy nat_cmp (map (λ i. get_or Kept i 0) (new_places xs)) →
      IsStrictlySortedBy nat_cmp (map (λ i. get_or Kept i 0) (cond b (to_of slots x ∷ new_places xs) (new_places xs)))
  rising_by x xs true t lt above rest =
      let numbers = map (λ i. get_or Kept i 0) (new_places xs) in
      sorted_cons (get_or Kept (to_of slots x) 0) numbers
      (subst (λ n. AllByRecursion (λ y. nat_cmp n y ≡ Less) numbers) (sym (at_new_place x lt t).1) above) rest
  rising_by x xs false t lt above rest = rest

  new_rising : (xs : List ℕ) → Within xs → IsStrictlySortedBy nat_cmp (map (λ i. get_or (entities slots) i 0) xs) →
      IsStrictlySortedBy nat_cmp (map (λ i. get_or Kept i 0) (new_places xs))
  new_rising [] w s = s
  new_rising (x ∷ xs) w s =
      let n = get_or (entities slots) x 0 in
      let numbers = map (λ i. get_or (entities slots) i 0) xs in
      rising_by x xs (is_place (to_of slots x)) refl w.0
      (new_all (λ y. nat_cmp n y ≡ Less) xs w.1 (sorted_head nat_cmp n numbers s)) (new_rising xs w.1 (sorted_tail nat_cmp n numbers s))

  any_by : (p x : ℕ) (xs : List ℕ) (b c : Bool) → is_place (to_of slots x) ≡ b → eqb p x ≡ c → is_place (to_of slots p) ≡ true →
      (c || list_any (eqb p) xs) ≡ true →
      (list_any (eqb p) xs ≡ true → list_any (eqb (to_of slots p)) (new_places xs) ≡ true) →
      list_any (eqb (to_of slots p)) (cond b (to_of slots x ∷ new_places xs) (new_places xs)) ≡ true
  any_by p x xs true true t u placed h rest =
      let same : eqb (to_of slots p) (to_of slots x) ≡ true =
      ap (λ i. eqb (to_of slots p) (to_of slots i)) (sym (number_is p x u)) ∙ same_again (to_of slots p) in
      ap (λ d. d || list_any (eqb (to_of slots p)) (new_places xs)) same
  any_by p x xs true false t u placed h rest = or_second (eqb (to_of slots p) (to_of slots x)) _ (rest h)
  any_by p x xs false true t u placed h rest =
      let same : is_place (to_of slots x) ≡ true = ap (λ i. is_place (to_of slots i)) (sym (number_is p x u)) ∙ placed in
      cc
  any_by p x xs false false t u placed h rest = rest h

  new_any : (p : ℕ) (xs : List ℕ) → is_place (to_of slots p) ≡ true → list_any (eqb p) xs ≡ true →
      list_any (eqb (to_of slots p)) (new_places xs) ≡ true
  new_any p [] placed h = cc
  new_any p (x ∷ xs) placed h = any_by p x xs (is_place (to_of slots x)) (eqb p x) refl refl placed h (new_any p xs placed)

  pub closed_up : (places : List ℕ) → IsByNumber (entities slots) places → IsByNumber Kept (new_places places)
  closed_up places h =
      let many = many_slots slots in
      let kept = many_slots (filter stays slots) in
      let less = fewer slots in
      let few = h.few in
      record {
        once = once_among slots h.once;
        few = omega (arith, many, kept, less, few);
        within = new_within places h.within;
        rising = new_rising places h.within h.rising;
        all = λ j lt.
            let come = comes slots 0 j order (omega arith) (omega (arith, lt, kept)) in
            let below = come.1 in
            ap (λ i. list_any (eqb i) (new_places places)) (sym come.2)
            ∙ new_any come.0 places come.3 (h.all come.0 (omega (arith, below, many)));
      }
