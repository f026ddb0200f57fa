-- Entities that are looked for by number, and one more among them.
use Rattle.std.proofs.Common.{◌≡◌, ◌≢◌, ◌<◌, ◌≤◌, ◌+◌, ℕ, zero, suc, Bool, true, false, ◌||◌, eqb, List, [], ◌∷◌, ◌++◌, map, length, take}
use Rattle.std.proofs.Common.{drop}
use Rattle.std.proofs.Common.{get_or, slice_set, cond, refl, sym, ap, ◌∙◌, subst, arith}
use Rattle.std.specs.Ordering.{nat_cmp}
use Rattle.std.specs.Cmp.{nat_eq_equiv}
use Rattle.std.specs.declared.cmp.Ordering.TheVariants.{Less}
use Rattle.std.specs.List.{AllWithin, AllByRecursion, IsDistinct, insert, list_any}
use Rattle.std.specs.List.Sorted.{IsNonDecreasingBy, IsStrictlySortedBy}
use Rattle.std.specs.Map.{keys_of}
use Rattle.std.proofs.lemmas.Map.Keys.{IsDistinct-head, IsDistinct-tail, IsDistinct-push, non_decreasing_from_sorted, sorted_head}
use Rattle.std.proofs.lemmas.Map.Keys.{sorted_tail}
use Rattle.std.proofs.lemmas.List.{get_or-map, get_or_append_left, length-append, length-map, map-append, take-append-drop}
use Rattle.std.proofs.lemmas.List.Folds.{list_any-append}
use Rattle.std.proofs.Math.Seq.{get_or-append_seam}
use Rattle.std.proofs.lemmas.Bool.Decides.{nat_tests}
use Rattle.seam_view.specs.declared.numbered.Slot.{Slot}
use Rattle.seam_view.specs.Replica.{placed}
use Rattle.seam_view.specs.ByNumber.{IsByNumber, entries_of}
use Rattle.seam_view.proofs.Numbers.{number_is, same_again, differs_too}

-- ---- the entities of slots

pub entity_of_slot : (slots : List Slot) (i : ℕ) (d : Slot) → i < length slots →
    get_or (keys_of (entries_of slots)) i 0 ≡ (get_or slots i d).entity
entity_of_slot [] i d lt = absurd (omega (arith, lt))
entity_of_slot (s ∷ slots) zero d lt = refl
entity_of_slot (s ∷ slots) (suc i) d lt = entity_of_slot slots i d (omega (arith, lt))

pub many_slots : (slots : List Slot) → length (keys_of (entries_of slots)) ≡ length slots
many_slots slots = length-map (entries_of slots) (λ p. p.0) ∙ length-map slots (λ s. (s.entity, s.version))

-- ---- where one is looked for

pub rising_at : {X : Type 0} (f : X → ℕ) (xs : List X) → IsStrictlySortedBy nat_cmp (map f xs) → IsNonDecreasingBy f xs
rising_at f xs rising i j d le lt =
    let many = length-map xs f in
    let first = get_or-map f xs i d (f d) (omega (arith, le, lt)) in
    let second = get_or-map f xs j d (f d) lt in
    let rises = non_decreasing_from_sorted (map f xs) rising i j (f d) le (omega (arith, lt, many)) in
    omega (arith, first, second, rises)

same_at : {X : Type 0} (xs : List X) (k : ℕ) (c d : X) → k < length xs → get_or xs k c ≡ get_or xs k d
same_at [] k c d lt = absurd (omega (arith, lt))
same_at (x ∷ xs) zero c d lt = refl
same_at (x ∷ xs) (suc k) c d lt = same_at xs k c d (omega (arith, lt))

pub all_below : {X : Type 0} (f : X → ℕ) (xs : List X) (k e : ℕ) (d : X) → IsNonDecreasingBy f xs → k < length xs →
    f (get_or xs k d) < e → AllWithin (λ x. f x < e) xs 0 (k + 1)
all_below f xs k e d rising lt below i c low high =
    let same : f (get_or xs k c) ≡ f (get_or xs k d) = ap f (same_at xs k c d lt) in
    let rises = rising i k c (omega (arith, high)) lt in
    omega (arith, same, rises, below)

pub all_above : {X : Type 0} (f : X → ℕ) (xs : List X) (k e : ℕ) (d : X) → IsNonDecreasingBy f xs → k < length xs →
    e ≤ f (get_or xs k d) → AllWithin (λ x. e ≤ f x) xs k (length xs)
all_above f xs k e d rising lt above i c low high =
    let same : f (get_or xs k c) ≡ f (get_or xs k d) = ap f (same_at xs k c d lt) in
    let rises = rising k i c low high in
    omega (arith, same, rises, above)

pub all_strictly_above : {X : Type 0} (f : X → ℕ) (xs : List X) (k e : ℕ) (d : X) → IsNonDecreasingBy f xs → k < length xs →
    e < f (get_or xs k d) → AllWithin (λ x. e < f x) xs k (length xs)
all_strictly_above f xs k e d rising lt above i c low high =
    let rest = all_above f xs k (e + 1) d rising lt (omega (arith, above)) i c low high in
    omega (arith, rest)

-- a number that is there is at some place
found_by : (e k : ℕ) (ks : List ℕ) (b : Bool) → eqb e k ≡ b → (b || list_any (eqb e) ks) ≡ true →
    (list_any (eqb e) ks ≡ true → (i : ℕ) × (i < length ks) × (get_or ks i 0 ≡ e)) →
    (i : ℕ) × (i < length (k ∷ ks)) × (get_or (k ∷ ks) i 0 ≡ e)
found_by e k ks true t h rest = (zero, omega arith, sym (number_is e k t))
found_by e k ks false t h rest = let r = rest h in let lt = r.1 in (suc r.0, omega (arith, lt), r.2)

found_at : (e : ℕ) (ks : List ℕ) → list_any (eqb e) ks ≡ true → (i : ℕ) × (i < length ks) × (get_or ks i 0 ≡ e)
found_at e [] h = cc
found_at e (k ∷ ks) h = found_by e k ks (eqb e k) refl h (found_at e ks)

any_of_keys : (e : ℕ) (es : List (ℕ × ℕ)) → list_any (eqb e) (keys_of es) ≡ list_any (λ p. eqb e p.0) es
any_of_keys e [] = refl
any_of_keys e (p ∷ es) = ap (λ b. eqb e p.0 || b) (any_of_keys e es)

-- an entity is not there where the numbers at some places are below its own, and those at the others above it
module _ (ks places : List ℕ) (e r : ℕ) (h : IsByNumber ks places)
    (below : AllWithin (λ i. get_or ks i 0 < e) places 0 r) (above : AllWithin (λ i. e < get_or ks i 0) places r (length places)) where
  nowhere_among : list_any (eqb e) ks ≡ true → ⊥
  nowhere_among there =
      let at = found_at e ks there in
      let by = found_at at.0 places (h.all at.0 at.1) in
      let k = by.0 in
      let is : get_or ks (get_or places k 0) 0 ≡ e = ap (λ i. get_or ks i 0) by.2 ∙ at.2 in
      let first : k < r → ⊥ = λ lt. (let b = below k 0 (omega arith) lt in omega (arith, b, is)) in
      let others : r ≤ k → ⊥ = λ le. (let a = above k 0 le by.1 in omega (arith, a, is)) in
      omega (arith, first, others)

  pub not_there : list_any (eqb e) ks ≡ false
  not_there =
      elim (list_any (eqb e) ks) as (λ b. list_any (eqb e) ks ≡ b → list_any (eqb e) ks ≡ false) [
        | true ↦ λ t. absurd (nowhere_among t)
        | false ↦ λ t. t
      ] refl

pub not_among : (es : List (ℕ × ℕ)) (places : List ℕ) (e r : ℕ) → IsByNumber (keys_of es) places →
    AllWithin (λ i. get_or (keys_of es) i 0 < e) places 0 r → AllWithin (λ i. e < get_or (keys_of es) i 0) places r (length places) →
    list_any (λ p. eqb e p.0) es ≡ false
not_among es places e r h below above = sym (any_of_keys e es) ∙ not_there (keys_of es) places e r h below above

-- ---- none

pub none_by_number : IsByNumber [] []
unfolding IsDistinct IsStrictlySortedBy
none_by_number = record { once = tt; few = omega arith; within = tt; rising = tt; all = λ i lt. absurd (omega (arith, lt)) }

-- ---- one is shown again

pub same_entities_set : (slots : List Slot) (i : ℕ) (s d : Slot) → s.entity ≡ (get_or slots i d).entity →
    keys_of (entries_of (slice_set slots i s)) ≡ keys_of (entries_of slots)
same_entities_set [] i s d h = refl
same_entities_set (x ∷ slots) zero s d h = ap (λ e. e ∷ keys_of (entries_of slots)) h
same_entities_set (x ∷ slots) (suc i) s d h = ap (λ es. x.entity ∷ es) (same_entities_set slots i s d h)

other_at : (x : ℕ) (slots : List Slot) (i : ℕ) (d : Slot) → AllByRecursion (λ y. eqb x y ≡ false) (keys_of (entries_of slots)) →
    i < length slots → eqb (get_or slots i d).entity x ≡ false
other_at x [] i d h lt = absurd (omega (arith, lt))
other_at x (s ∷ slots) zero d h lt = differs_too x s.entity h.0
other_at x (s ∷ slots) (suc i) d h lt = other_at x slots i d h.1 (omega (arith, lt))

pub placed_set : (slots : List Slot) (i v : ℕ) (s d : Slot) → IsDistinct eqb (keys_of (entries_of slots)) → i < length slots →
    s.entity ≡ (get_or slots i d).entity → entries_of (slice_set slots i (record s { version = v }))
    ≡ placed (get_or slots i d).entity v (entries_of slots)
placed_set [] i v s d u lt h = absurd (omega (arith, lt))
placed_set (x ∷ slots) zero v s d u lt h =
    ap (λ e. (e, v) ∷ entries_of slots) h
    ∙ ap (λ b. cond b ((x.entity, v) ∷ entries_of slots) ((x.entity, x.version) ∷ placed x.entity v (entries_of slots)))
    (sym (same_again x.entity))
placed_set (x ∷ slots) (suc i) v s d u lt h =
    let es = entries_of slots in
    let e = (get_or slots i d).entity in
    let other = other_at x.entity slots i d (IsDistinct-head eqb x.entity (keys_of es) u) (omega (arith, lt)) in
    ap (λ rest. (x.entity, x.version) ∷ rest) (placed_set slots i v s d (IsDistinct-tail eqb x.entity (keys_of es) u) (omega (arith, lt)) h)
    ∙ ap (λ b. cond b ((x.entity, v) ∷ es) ((x.entity, x.version) ∷ placed e v es)) (sym other)

-- ---- one more

placed_by : (e v : ℕ) (p : ℕ × ℕ) (es : List (ℕ × ℕ)) (b : Bool) → eqb e p.0 ≡ b → (b || list_any (λ p. eqb e p.0) es) ≡ false →
    (list_any (λ p. eqb e p.0) es ≡ false → placed e v es ≡ es ++ (e, v) ∷ []) →
    cond b ((p.0, v) ∷ es) (p ∷ placed e v es) ≡ p ∷ es ++ (e, v) ∷ []
placed_by e v p es true t h rest = cc
placed_by e v p es false t h rest = ap (λ ps. p ∷ ps) (rest h)

pub placed_last : (e v : ℕ) (es : List (ℕ × ℕ)) → list_any (λ p. eqb e p.0) es ≡ false → placed e v es ≡ es ++ (e, v) ∷ []
placed_last e v [] h = refl
placed_last e v (p ∷ es) h = placed_by e v p es (eqb e p.0) refl h (placed_last e v es)

pub entries_with_last : (slots : List Slot) (s : Slot) → entries_of (slots ++ s ∷ []) ≡ entries_of slots ++ (s.entity, s.version) ∷ []
entries_with_last slots s = map-append (λ s. (s.entity, s.version)) slots (s ∷ [])

pub entities_with_last : (slots : List Slot) (s : Slot) →
    keys_of (entries_of (slots ++ s ∷ [])) ≡ keys_of (entries_of slots) ++ s.entity ∷ []
entities_with_last slots s =
    ap keys_of (entries_with_last slots s) ∙ map-append (λ p. p.0) (entries_of slots) ((s.entity, s.version) ∷ [])

all_insert : (P : ℕ → Type 0) (xs : List ℕ) (r x : ℕ) → AllByRecursion P xs → P x → AllByRecursion P (insert xs r x)
all_insert P [] zero x h p = (p, tt)
all_insert P [] (suc r) x h p = (p, tt)
all_insert P (y ∷ xs) zero x h p = (p, h)
all_insert P (y ∷ xs) (suc r) x h p = (h.0, all_insert P xs r x h.1 p)

any_insert : (t : ℕ → Bool) (xs : List ℕ) (r x : ℕ) → list_any t (insert xs r x) ≡ (t x || list_any t xs)
any_insert t xs r x =
    list_any-append t (take r xs) (x ∷ drop r xs)
    ∙ (swap (list_any t (take r xs)) (t x) (list_any t (drop r xs))
    ∙ ap (λ b. t x || b) (sym (list_any-append t (take r xs) (drop r xs)) ∙ ap (list_any t) (take-append-drop r xs)))
  where
    swap : (a b c : Bool) → (a || (b || c)) ≡ (b || (a || c))
    swap true true c = refl
    swap true false c = refl
    swap false b c = refl

module _ (f g : ℕ → ℕ) where
  map_insert : (xs : List ℕ) (r x : ℕ) → AllByRecursion (λ i. g i ≡ f i) xs → map g (insert xs r x) ≡ insert (map f xs) r (g x)
  map_insert [] zero x h = refl
  map_insert [] (suc r) x h = refl
  map_insert (y ∷ xs) zero x h = ap (λ ns. g x ∷ ns) (same (y ∷ xs) h)
    where
      same : (xs : List ℕ) → AllByRecursion (λ i. g i ≡ f i) xs → map g xs ≡ map f xs
      same [] h = refl
      same (x ∷ xs) h = λ i. h.0 i ∷ same xs h.1 i
  map_insert (y ∷ xs) (suc r) x h = λ i. h.0 i ∷ map_insert xs r x h.1 i

less : (x y : ℕ) → x < y → nat_cmp x y ≡ Less
less x y h = grind (arith, nat_tests)

pub sorted_cons : (n : ℕ) (ns : List ℕ) → AllByRecursion (λ y. nat_cmp n y ≡ Less) ns → IsStrictlySortedBy nat_cmp ns →
    IsStrictlySortedBy nat_cmp (n ∷ ns)
unfolding IsStrictlySortedBy
sorted_cons n ns h s = (h, s)

module _ (f : ℕ → ℕ) (e : ℕ) where
  all_less : (xs : List ℕ) → AllWithin (λ x. e < f x) xs 0 (length xs) → AllByRecursion (λ y. nat_cmp e y ≡ Less) (map f xs)
  all_less [] h = tt
  all_less (x ∷ xs) h =
      (less e (f x) (h 0 0 (omega arith) (omega arith)), all_less xs (λ k d low lt. h (suc k) d (omega arith) (omega (arith, lt))))

  pub sorted_insert : (xs : List ℕ) (r : ℕ) → IsStrictlySortedBy nat_cmp (map f xs) → AllWithin (λ x. f x < e) xs 0 r →
      AllWithin (λ x. e < f x) xs r (length xs) → IsStrictlySortedBy nat_cmp (insert (map f xs) r e)
  sorted_insert [] zero s below above = sorted_cons e [] tt s
  sorted_insert [] (suc r) s below above = sorted_cons e [] tt s
  sorted_insert (x ∷ xs) zero s below above = sorted_cons e (map f (x ∷ xs)) (all_less (x ∷ xs) above) s
  sorted_insert (x ∷ xs) (suc r) s below above =
      sorted_cons (f x) (insert (map f xs) r e)
      (all_insert (λ y. nat_cmp (f x) y ≡ Less) (map f xs) r e (sorted_head nat_cmp (f x) (map f xs) s)
      (less (f x) e (below 0 0 (omega arith) (omega arith))))
      (sorted_insert xs r (sorted_tail nat_cmp (f x) (map f xs) s) (λ k d low lt. below (suc k) d (omega arith) (omega (arith, lt)))
      (λ k d low lt. above (suc k) d (omega (arith, low)) (omega (arith, lt))))

module _ (ks places : List ℕ) (e r : ℕ) (h : IsByNumber ks places) (few : length ks < 0xffff_ffff)
    (below : AllWithin (λ i. get_or ks i 0 < e) places 0 r) (above : AllWithin (λ i. e < get_or ks i 0) places r (length places)) where
  further : (xs : List ℕ) → AllByRecursion (λ i. i < length ks) xs → AllByRecursion (λ i. i < length (ks ++ e ∷ [])) xs
  further [] w = tt
  further (x ∷ xs) w = let lt = w.0 in let many = length-append ks (e ∷ []) in (omega (arith, lt, many), further xs w.1)

  same_entities : (xs : List ℕ) → AllByRecursion (λ i. i < length ks) xs →
      AllByRecursion (λ i. get_or (ks ++ e ∷ []) i 0 ≡ get_or ks i 0) xs
  same_entities [] w = tt
  same_entities (x ∷ xs) w = (get_or_append_left ks (e ∷ []) 0 x w.0, same_entities xs w.1)

  each_there : (i : ℕ) (b : Bool) → eqb i (length ks) ≡ b → i < length ks + 1 → (b || list_any (eqb i) places) ≡ true
  each_there i true t lt = refl
  each_there i false t lt = h.all i (let n : i ≢ length ks = (λ q. differ i (length ks) q t) in omega (arith, lt, n))
    where
      differ : (a b : ℕ) → a ≡ b → eqb a b ≡ false → ⊥
      differ a b q t = let s : eqb a b ≡ true = grind (arith, nat_tests) in cc

  pub with_one_more : IsByNumber (ks ++ e ∷ []) (insert places r (length ks))
  with_one_more =
      let many = length-append ks (e ∷ []) in
      let f : ℕ → ℕ = λ i. get_or ks i 0 in
      let g : ℕ → ℕ = λ i. get_or (ks ++ e ∷ []) i 0 in
      record {
        once = IsDistinct-push nat_eq_equiv ks e h.once (not_there ks places e r h below above);
        few = omega (arith, many, few);
        within =
            all_insert (λ i. i < length (ks ++ e ∷ [])) places r (length ks) (further places h.within) (omega (arith, many));
        rising =
            subst (IsStrictlySortedBy nat_cmp) (sym (map_insert f g places r (length ks) (same_entities places h.within)
            ∙ ap (insert (map f places) r) (get_or-append_seam ks e [] 0)))
            (sorted_insert f e places r h.rising below above);
        all = λ i lt. any_insert (eqb i) places r (length ks) ∙ each_there i (eqb i (length ks)) refl (omega (arith, lt, many));
      }
