-- What an ordered map by number holds, as items that wait: the item of a number, one more, one less, and what stays rising.
use Rattle.std.proofs.Common.{◌≡◌, ℕ, ◌+◌, ◌<◌, ◌≤◌, ◌^◌, Bool, true, false, cond, eqb, ltb, List, [], ◌∷◌, Option, None, Some, refl, ap}
use Rattle.std.proofs.Common.{◌∙◌, arith, is_some}
use Rattle.std.specs.Ordering.{nat_cmp, is_eq, match_ordering}
use Rattle.std.specs.declared.cmp.Ordering.{Ordering}
use Rattle.std.specs.declared.cmp.Ordering.TheVariants.{Less, Equal, Greater}
use Rattle.std.specs.Map.{lookup, remove_entry}
use Rattle.std.specs.BTreeMap.{is_at, insert_entry}
use Rattle.std.proofs.lemmas.Bool.Decides.{nat_tests}
use Rattle.seam_order.specs.Held.{OrderView, item_at, with_item, without, RiseFrom}
use Rattle.seam_order.specs.Offers.{after_item, after_taking}

pub is_same : (a b : ℕ) → a ≡ b → eqb a b ≡ true
is_same a b e = grind (arith, nat_tests)

differs : (a b : ℕ) → (a ≡ b → ⊥) → eqb a b ≡ false
differs a b n = elim (eqb a b) as (λ t. eqb a b ≡ t → eqb a b ≡ false) [
  | true ↦ λ h. absurd (n (let s : a ≡ b = grind (arith, nat_tests) in s))
  | false ↦ λ h. h
] refl

tied : (a b : ℕ) → is_eq (nat_cmp a b) ≡ eqb b a
tied a b = grind (arith, nat_tests)

-- what the map has at a number is the item that waits
pub item_of_lookup : {T : Type 0} (n : ℕ) (xs : List (ℕ × T)) → lookup (is_at (nat_cmp n)) xs ≡ item_at n xs
item_of_lookup n [] = refl
item_of_lookup n (p ∷ ps) = λ i. cond (tied n p.0 i) (Some p.1) (item_of_lookup n ps i)

pub without_of_remove : {T : Type 0} (n : ℕ) (xs : List (ℕ × T)) → remove_entry (is_at (nat_cmp n)) xs ≡ without n xs
without_of_remove n [] = refl
without_of_remove n (p ∷ ps) = λ i. cond (tied n p.0 i) ps (p ∷ without_of_remove n ps i)

-- the taking of what the map has at the next number
pub taken_of_lookup : {T : Type 0} (next : ℕ) (xs ys : List (ℕ × T)) (x : T) → Some x ≡ lookup (is_at (nat_cmp next)) xs →
    ys ≡ remove_entry (is_at (nat_cmp next)) xs → record { next = next + 1; held = ys } ≡ after_taking (record { next = next; held = xs })
taken_of_lookup next xs ys x found rest =
    let w : OrderView _ = record { next = next; held = xs } in
    ap (λ l. record { next = next + 1; held = l }) (rest ∙ without_of_remove next xs)
    ∙ ap (after_item w) (found ∙ item_of_lookup next xs)

pub none_taken : {T : Type 0} (next : ℕ) (xs ys : List (ℕ × T)) → None ≡ lookup (is_at (nat_cmp next)) xs → ys ≡ xs →
    record { next = next; held = ys } ≡ after_taking (record { next = next; held = xs })
none_taken next xs ys missing same =
    let w : OrderView _ = record { next = next; held = xs } in
    ap (λ l. record { next = next; held = l }) same ∙ ap (after_item w) (missing ∙ item_of_lookup next xs)

-- an item that is looked for and is not the first is none
pub missed : {T : Type 0} (b : Bool) (x : T) (o : Option T) → is_some (cond b (Some x) o) ≡ false → (b ≡ false) × (is_some o ≡ false)
missed true x o h = cc
missed false x o h = (refl, h)

inserted_by : {T : Type 0} (n : ℕ) (x : T) (p : ℕ × T) (ps qs rs : List (ℕ × T)) (o : Ordering) → nat_cmp n p.0 ≡ o → eqb p.0 n ≡ false →
    qs ≡ rs → match_ordering o ((n, x) ∷ p ∷ ps) ((p.0, x) ∷ ps) (p ∷ qs) ≡ cond (ltb n p.0) ((n, x) ∷ p ∷ ps) (p ∷ rs)
inserted_by n x p ps qs rs Less e ne rest =
    let less : ltb n p.0 ≡ true = grind (arith, nat_tests) in
    rw less refl
inserted_by n x p ps qs rs Equal e ne rest =
    let same : eqb p.0 n ≡ true = grind (arith, nat_tests) in
    cc
inserted_by n x p ps qs rs Greater e ne rest =
    let more : ltb n p.0 ≡ false = grind (arith, nat_tests) in
    rw more (ap (λ l. p ∷ l) rest)

-- one more item, of a number that does not wait
pub with_item_of_insert : {T : Type 0} (n : ℕ) (x : T) (xs : List (ℕ × T)) → is_some (item_at n xs) ≡ false →
    insert_entry nat_cmp xs n x ≡ with_item n x xs
with_item_of_insert n x [] out = refl
with_item_of_insert n x (p ∷ ps) out =
    let m = missed (eqb p.0 n) p.1 (item_at n ps) out in
    inserted_by n x p ps (insert_entry nat_cmp ps n x) (with_item n x ps) (nat_cmp n p.0) refl m.0 (with_item_of_insert n x ps m.1)

-- no number below where they begin
pub item_below : {T : Type 0} (low n : ℕ) (xs : List (ℕ × T)) → RiseFrom low xs → n < low → item_at n xs ≡ None
item_below low n [] r lt = refl
item_below low n (p ∷ ps) r lt =
    let k = r.0 in
    let other : eqb p.0 n ≡ false = differs p.0 n (λ e. omega (arith, e, k, lt)) in
    rw other (item_below (p.0 + 1) n ps r.2 (omega (arith, k, lt)))

above_of : (p n : ℕ) → n ≤ p → eqb p n ≡ false → n < p
above_of p n le ne = grind (arith, nat_tests)

-- with one more they still rise
rises_by : {T : Type 0} (low n : ℕ) (x : T) (p : ℕ × T) (ps : List (ℕ × T)) (b : Bool) → ltb n p.0 ≡ b → eqb p.0 n ≡ false → low ≤ n →
    n < 2 ^ 62 →
    RiseFrom low (p ∷ ps) → (p.0 < n → RiseFrom (p.0 + 1) (with_item n x ps)) →
    RiseFrom low (cond b ((n, x) ∷ p ∷ ps) (p ∷ with_item n x ps))
rises_by low n x p ps true t ne le few r rest = (le, few, ((let h : n + 1 ≤ p.0 = grind (arith, nat_tests) in h), r.1, r.2))
rises_by low n x p ps false t ne le few r rest = (r.0, r.1, rest (grind (arith, nat_tests)))

pub rises_with_item : {T : Type 0} (low n : ℕ) (x : T) (xs : List (ℕ × T)) → RiseFrom low xs → is_some (item_at n xs) ≡ false → low ≤ n →
    n < 2 ^ 62 →
    RiseFrom low (with_item n x xs)
rises_with_item low n x [] r out le few = (le, few, tt)
rises_with_item low n x (p ∷ ps) r out le few =
    let m = missed (eqb p.0 n) p.1 (item_at n ps) out in
    rises_by low n x p ps (ltb n p.0) refl m.0 le few r (λ lt. rises_with_item (p.0 + 1) n x ps r.2 m.1 (omega (arith, lt)) few)

-- where the least number does not wait, they rise from the one after it
pub rises_above : {T : Type 0} (low : ℕ) (xs : List (ℕ × T)) → RiseFrom low xs → is_some (item_at low xs) ≡ false → RiseFrom (low + 1) xs
rises_above low [] r out = tt
rises_above low (p ∷ ps) r out =
    let l = r.0 in
    let h = above_of p.0 low l (missed (eqb p.0 low) p.1 (item_at low ps) out).0 in
    (omega (arith, h), r.1, r.2)
