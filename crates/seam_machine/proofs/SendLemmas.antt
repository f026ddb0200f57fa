-- Items that go to one node, counted one after the other.
use Rattle.std.proofs.Common.{◌≡◌, ◌≢◌, ℕ, zero, suc, ◌+◌, ◌<◌, ◌≤◌, Bool, true, false, cond, eqb, List, [], ◌∷◌, ◌++◌, length, None, Some}
use Rattle.std.proofs.Common.{get_or, take, refl, sym, ap, ◌∙◌, subst, arith}
use Rattle.std.specs.Prelude.{slice_get}
use Rattle.std.proofs.lemmas.Bool.Decides.{nat_tests}
use Rattle.std.specs.List.{All}
use Rattle.std.proofs.lemmas.List.{take_more, take_all, length-append}
use Rattle.std.proofs.lemmas.List.Elements.{All-append, All-cons, All-nil}
use Rattle.seam_machine.specs.Sends.{items_to, first_target, AllBelow}

pub items_to-append : {M : Type 0} (b : ℕ) (xs ys : List (ℕ × M)) → items_to b (xs ++ ys) ≡ items_to b xs ++ items_to b ys
items_to-append b [] ys = refl
items_to-append b (x ∷ xs) ys =
    elim (eqb x.0 b) as (λ t. cond t (x.1 ∷ items_to b (xs ++ ys)) (items_to b (xs ++ ys))
    ≡ cond t (x.1 ∷ items_to b xs) (items_to b xs) ++ items_to b ys) [
      | true ↦ ap (λ l. x.1 ∷ l) (items_to-append b xs ys)
      | false ↦ items_to-append b xs ys
    ]

one_of : {M : Type 0} (b : ℕ) (p : ℕ × M) (t : Bool) → eqb p.0 b ≡ t → items_to b (p ∷ []) ≡ cond t (p.1 ∷ []) []
one_of b p t e = ap (λ y. cond y (p.1 ∷ []) []) e

-- one more item is looked at
items_step : {M : Type 0} (b : ℕ) (xs : List (ℕ × M)) (i : ℕ) (d : ℕ × M) (t : Bool) → i < length xs → eqb (get_or xs i d).0 b ≡ t →
    items_to b (take (i + 1) xs) ≡ items_to b (take i xs) ++ cond t ((get_or xs i d).1 ∷ []) []
items_step b xs i d t h e =
    ap (items_to b) (take_more xs i d h)
    ∙ (items_to-append b (take i xs) (get_or xs i d ∷ []) ∙ ap (λ l. items_to b (take i xs) ++ l) (one_of b (get_or xs i d) t e))

pub count_yes : {M : Type 0} (b : ℕ) (xs : List (ℕ × M)) (i : ℕ) (d : ℕ × M) → i < length xs → (get_or xs i d).0 ≡ b →
    length (items_to b (take (i + 1) xs)) ≡ length (items_to b (take i xs)) + 1
count_yes b xs i d h e =
    let t : eqb (get_or xs i d).0 b ≡ true = grind (arith, nat_tests) in
    let one = ap length (items_step b xs i d true h t) in
    let two = length-append (items_to b (take i xs)) ((get_or xs i d).1 ∷ []) in
    omega (arith, one, two)

pub count_no : {M : Type 0} (b : ℕ) (xs : List (ℕ × M)) (i : ℕ) (d : ℕ × M) → i < length xs → (get_or xs i d).0 ≢ b →
    length (items_to b (take (i + 1) xs)) ≡ length (items_to b (take i xs))
count_no b xs i d h e =
    let t : eqb (get_or xs i d).0 b ≡ false = grind (arith, nat_tests) in
    let one = ap length (items_step b xs i d false h t) in
    let two = length-append (items_to b (take i xs)) [] in
    omega (arith, one, two)

-- the item at the place that was counted so far
item_here : {M : Type 0} (b : ℕ) (xs : List (ℕ × M)) (k : ℕ) (d : ℕ × M) → k < length xs → (get_or xs k d).0 ≡ b →
    slice_get (items_to b xs) (length (items_to b (take k xs))) ≡ Some (get_or xs k d).1
item_here b [] k d h e = absurd (omega (arith, h))
item_here b (p ∷ ps) zero d h e = let t : eqb p.0 b ≡ true = grind (arith, nat_tests) in rw t refl
item_here b (p ∷ ps) (suc k) d h e =
    let rest = item_here b ps k d (omega (arith, h)) e in
    elim (eqb p.0 b) as (λ t. slice_get (cond t (p.1 ∷ items_to b ps) (items_to b ps))
    (length (cond t (p.1 ∷ items_to b (take k ps)) (items_to b (take k ps)))) ≡ Some (get_or ps k d).1) [ true ↦ rest | false ↦ rest ]

pub found_here : {M : Type 0} (b : ℕ) (xs : List (ℕ × M)) (k n i : ℕ) (x : ℕ × M) → k < length xs → x ≡ get_or xs k x → x.0 ≡ b →
    n ≡ length (items_to b (take k xs)) → n ≡ i → Some x.1 ≡ slice_get (items_to b xs) i
found_here b xs k n i x h r e c s =
    sym (item_here b xs k x h (sym (ap (λ p. p.0) r) ∙ e) ∙ ap (λ p. Some p.1) (sym r)) ∙ ap (slice_get (items_to b xs)) (sym c ∙ s)

-- past the last one
pub none_past : {M : Type 0} (xs : List M) (i : ℕ) → length xs ≤ i → None ≡ slice_get xs i
none_past [] i h = refl
none_past (x ∷ xs) zero h = absurd (omega (arith, h))
none_past (x ∷ xs) (suc i) h = none_past xs i (omega (arith, h))

pub target_fits : {M : Type 0} (n : ℕ) (items : List (ℕ × M)) (to : ℕ) → first_target items ≡ Some to → AllBelow n items → to < n
target_fits n [] to e h = cc
target_fits n (p ∷ ps) to e h = let same : p.0 ≡ to = cc in let here = h 0 p (omega arith) in omega (arith, same, here)

-- one more item goes to the node
pub all_go_more : {M : Type 0} (to : ℕ) (xs : List (ℕ × M)) (i : ℕ) (x : ℕ × M) → i < length xs → x ≡ get_or xs i x → x.0 ≡ to →
    All (λ p. p.0 ≡ to) (take i xs) → All (λ p. p.0 ≡ to) (take (i + 1) xs)
all_go_more {M} to xs i x h r e before =
    let P : ℕ × M → Type 0 = λ p. p.0 ≡ to in
    subst (All P) (sym (take_more xs i x h ∙ ap (λ y. take i xs ++ y ∷ []) (sym r)))
    (All-append P (take i xs) (x ∷ []) before (All-cons P x [] e (All-nil P)))

pub all_go_whole : {M : Type 0} (to : ℕ) (xs : List (ℕ × M)) (n : ℕ) → length xs ≤ n → All (λ p. p.0 ≡ to) (take n xs) →
    All (λ p. p.0 ≡ to) xs
all_go_whole to xs n h before = subst (All (λ p. p.0 ≡ to)) (take_all n xs h) before

pub all_go_both : {M : Type 0} (to : ℕ) (xs ys items : List (ℕ × M)) → xs ++ ys ≡ items → All (λ p. p.0 ≡ to) xs → All (λ p. p.0 ≡ to) ys →
    All (λ p. p.0 ≡ to) items
all_go_both {M} to xs ys items e one more =
    let P : ℕ × M → Type 0 = λ p. p.0 ≡ to in
    subst (All P) e (All-append P xs ys one more)

pub target_some : {M : Type 0} (items : List (ℕ × M)) (to : ℕ) → first_target items ≡ Some to → 0 < length items
target_some [] to e = cc
target_some (p ∷ ps) to e = omega arith
