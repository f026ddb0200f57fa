-- What an offer and a taking keep, and what is held after them.
use Rattle.std.proofs.Common.{◌≡◌, ℕ, ◌+◌, ◌<◌, ◌≤◌, ◌^◌, Bool, true, false, cond, eqb, ltb, List, [], ◌∷◌, Option, None, Some, refl, sym}
use Rattle.std.proofs.Common.{ap, ◌∙◌, subst, arith, is_some}
use Rattle.std.specs.Ordering.{nat_cmp, match_ordering}
use Rattle.std.specs.declared.cmp.Ordering.{Ordering}
use Rattle.std.specs.declared.cmp.Ordering.TheVariants.{Less, Equal, Greater}
use Rattle.std.proofs.lemmas.Bool.Decides.{nat_tests}
use Rattle.seam_order.specs.Held.{OrderView, item_at, with_item, without, RiseFrom, IsInOrder}
use Rattle.seam_order.specs.Offers.{after_offer, after_item, after_taking, next_item}
use Rattle.std.specs.BTreeMap.{insert_entry}
use Rattle.seam_order.proofs.HeldLemmas.{with_item_of_insert, rises_with_item, rises_above, item_below, is_same, missed}

equal_of : (a b : ℕ) → nat_cmp a b ≡ Equal → a ≡ b
equal_of a b e = grind (arith, nat_tests)

greater_of : (a b : ℕ) → nat_cmp a b ≡ Greater → b < a
greater_of a b e = grind (arith, nat_tests)

cmp_greater : (a b : ℕ) → b < a → nat_cmp a b ≡ Greater
cmp_greater a b lt = grind (arith, nat_tests)

eqb_sym : (a b : ℕ) → eqb a b ≡ eqb b a
eqb_sym a b = grind (arith, nat_tests)

equal_numbers : (a b : ℕ) → eqb a b ≡ true → a ≡ b
equal_numbers a b t = grind (arith, nat_tests)

offer_step : {T : Type 0} (w : OrderView T) (n : ℕ) (item : T) (o : Ordering) → nat_cmp n w.next ≡ o → IsInOrder w → n < 2 ^ 62 →
    is_some (item_at n w.held) ≡ false →
    IsInOrder (match_ordering o w (record w { next = w.next + 1 }) (record w { held = with_item n item w.held }))
offer_step w n item Less e q few out = q
offer_step w n item Equal e q few out =
    let same : n ≡ w.next = equal_of n w.next e in
    record {
      from_one = omega arith;
      small = omega (arith, same, few);
      rising = rises_above w.next w.held q.rising (subst (λ k. is_some (item_at k w.held) ≡ false) same out);
    }
offer_step w n item Greater e q few out =
    let more = greater_of n w.next e in
    record {
      from_one = q.from_one;
      small = q.small;
      rising = rises_with_item w.next n item w.held q.rising out (omega (arith, more)) few;
    }

pub order_after_offer : {T : Type 0} (w : OrderView T) (n : ℕ) (item : T) → IsInOrder w → n < 2 ^ 62 → is_some (item_at n w.held) ≡ false →
    IsInOrder (after_offer w n item)
order_after_offer w n item q few out = offer_step w n item (nat_cmp n w.next) refl q few out

taken_first : {T : Type 0} (low : ℕ) (p : ℕ × T) (ps : List (ℕ × T)) (x : T) (b : Bool) → eqb p.0 low ≡ b → RiseFrom low (p ∷ ps) →
    cond b (Some p.1) (item_at low ps) ≡ Some x → (low < 2 ^ 62) × RiseFrom (low + 1) (cond b ps (p ∷ without low ps))
taken_first low p ps x true t r e =
    let same = equal_numbers p.0 low t in
    let few = r.1 in
    (omega (arith, same, few), subst (λ n. RiseFrom (n + 1) ps) same r.2)
taken_first low p ps x false t r e =
    let l = r.0 in
    let h : None ≡ Some x = sym (item_below (p.0 + 1) low ps r.2 (omega (arith, l))) ∙ e in
    cc

rises_without : {T : Type 0} (low : ℕ) (xs : List (ℕ × T)) (x : T) → RiseFrom low xs → item_at low xs ≡ Some x →
    (low < 2 ^ 62) × RiseFrom (low + 1) (without low xs)
rises_without low [] x r e = cc
rises_without low (p ∷ ps) x r e = taken_first low p ps x (eqb p.0 low) refl r e

taking_step : {T : Type 0} (w : OrderView T) (o : Option T) → next_item w ≡ o → IsInOrder w → IsInOrder (after_item w o)
taking_step w None e q = q
taking_step w (Some x) e q =
    let h = rises_without w.next w.held x q.rising e in
    let few = h.0 in
    record { from_one = omega arith; small = omega (arith, few); rising = h.1 }

pub order_after_taking : {T : Type 0} (w : OrderView T) → IsInOrder w → IsInOrder (after_taking w)
order_after_taking w q = taking_step w (next_item w) refl q

-- of two tests at most one answers true, so their order does not matter
swapped : {X : Type 0} (a b : Bool) (x y z : X) → (a ≡ true → b ≡ true → ⊥) → cond a x (cond b y z) ≡ cond b y (cond a x z)
swapped true true x y z n = absurd (n refl refl)
swapped true false x y z n = refl
swapped false b x y z n = refl

pub item_at_with_item : {T : Type 0} (n : ℕ) (item : T) (xs : List (ℕ × T)) (m : ℕ) → is_some (item_at n xs) ≡ false →
    item_at m (with_item n item xs) ≡ cond (eqb m n) (Some item) (item_at m xs)
item_at_with_item n item [] m out = ap (λ b. cond b (Some item) None) (eqb_sym n m)
item_at_with_item n item (p ∷ ps) m out =
    let h = missed (eqb p.0 n) p.1 (item_at n ps) out in
    let rest = item_at_with_item n item ps m h.1 in
    let later : item_at m (p ∷ with_item n item ps) ≡ cond (eqb m n) (Some item) (item_at m (p ∷ ps)) =
    ap (cond (eqb p.0 m) (Some p.1)) rest
    ∙ swapped (eqb p.0 m) (eqb m n) (Some p.1) (Some item) (item_at m ps)
    (λ s t. let e : eqb p.0 n ≡ true = is_same p.0 n (equal_numbers p.0 m s ∙ equal_numbers m n t) in
    let f : true ≡ false = sym e ∙ h.0 in cc) in
    let first : item_at m ((n, item) ∷ p ∷ ps) ≡ cond (eqb m n) (Some item) (item_at m (p ∷ ps)) =
    ap (λ b. cond b (Some item) (item_at m (p ∷ ps))) (eqb_sym n m) in
    elim (ltb n p.0) as (λ b. item_at m (cond b ((n, item) ∷ p ∷ ps) (p ∷ with_item n item ps))
    ≡ cond (eqb m n) (Some item) (item_at m (p ∷ ps))) [ true ↦ first | false ↦ later ]

-- the item of a number that is to come and does not wait, inserted
pub after_offer_of_insert : {T : Type 0} (next n : ℕ) (x : T) (xs ys : List (ℕ × T)) → next < n → is_some (item_at n xs) ≡ false →
    ys ≡ insert_entry nat_cmp xs n x → record { next = next; held = ys } ≡ after_offer (record { next = next; held = xs }) n x
after_offer_of_insert next n x xs ys lt out same =
    rw (cmp_greater n next lt) (ap (λ l. record { next = next; held = l }) (same ∙ with_item_of_insert n x xs out))

pub held_early : {T : Type 0} (w : OrderView T) (n : ℕ) (item : T) (m : ℕ) → is_some (item_at n w.held) ≡ false → w.next < n →
    item_at m (after_offer w n item).held ≡ cond (eqb m n) (Some item) (item_at m w.held)
held_early w n item m out lt = rw (cmp_greater n w.next lt) (item_at_with_item n item w.held m out)

other_step : {T : Type 0} (w : OrderView T) (n : ℕ) (item : T) (o : Ordering) → nat_cmp n w.next ≡ o → n ≤ w.next →
    (match_ordering o w (record w { next = w.next + 1 }) (record w { held = with_item n item w.held })).held ≡ w.held
other_step w n item Less e le = refl
other_step w n item Equal e le = refl
other_step w n item Greater e le = let lt = greater_of n w.next e in absurd (omega (arith, lt, le))

pub held_other : {T : Type 0} (w : OrderView T) (n : ℕ) (item : T) → n ≤ w.next → (after_offer w n item).held ≡ w.held
held_other w n item le = other_step w n item (nat_cmp n w.next) refl le

-- a number that is looked for where the numbers rise and one was taken out
without_first : {T : Type 0} (k m : ℕ) (p : ℕ × T) (ps : List (ℕ × T)) (b : Bool) → eqb m k ≡ b → p.0 ≡ k → RiseFrom (p.0 + 1) ps →
    item_at m ps ≡ cond b None (cond (eqb p.0 m) (Some p.1) (item_at m ps))
without_first k m p ps true t e r = item_below (p.0 + 1) m ps r (let s = equal_numbers m k t in omega (arith, s, e))
without_first k m p ps false t e r = let other : eqb p.0 m ≡ false = ap (λ a. eqb a m) e ∙ (eqb_sym k m ∙ t) in rw other refl

without_step : {T : Type 0} (k m : ℕ) (p : ℕ × T) (ps : List (ℕ × T)) (b : Bool) → eqb p.0 k ≡ b → RiseFrom (p.0 + 1) ps →
    item_at m (without k ps) ≡ cond (eqb m k) None (item_at m ps) →
    item_at m (cond b ps (p ∷ without k ps)) ≡ cond (eqb m k) None (item_at m (p ∷ ps))
without_step k m p ps true t r rest = without_first k m p ps (eqb m k) refl (equal_numbers p.0 k t) r
without_step k m p ps false t r rest =
    ap (cond (eqb p.0 m) (Some p.1)) rest
    ∙ swapped (eqb p.0 m) (eqb m k) (Some p.1) None (item_at m ps)
    (λ s u. let e : eqb p.0 k ≡ true = is_same p.0 k (equal_numbers p.0 m s ∙ equal_numbers m k u) in let f : true ≡ false = sym e ∙ t in
    cc)

none_either : {T : Type 0} (b : Bool) (o : Option T) → o ≡ None → o ≡ cond b None o
none_either true o e = e
none_either false o e = refl

pub item_at_without : {T : Type 0} (low k m : ℕ) (xs : List (ℕ × T)) → RiseFrom low xs →
    item_at m (without k xs) ≡ cond (eqb m k) None (item_at m xs)
item_at_without low k m [] r = none_either (eqb m k) None refl
item_at_without low k m (p ∷ ps) r = without_step k m p ps (eqb p.0 k) refl r.2 (item_at_without (p.0 + 1) k m ps r.2)

absent : {T : Type 0} (k m : ℕ) (xs : List (ℕ × T)) (b : Bool) → eqb m k ≡ b → item_at k xs ≡ None →
    item_at m xs ≡ cond b None (item_at m xs)
absent k m xs true t e = ap (λ j. item_at j xs) (equal_numbers m k t) ∙ e
absent k m xs false t e = refl

taken_step : {T : Type 0} (w : OrderView T) (m : ℕ) (o : Option T) → next_item w ≡ o → IsInOrder w →
    item_at m (after_item w o).held ≡ cond (eqb m w.next) None (item_at m w.held)
taken_step w m None e q = absent w.next m w.held (eqb m w.next) refl e
taken_step w m (Some x) e q = item_at_without w.next w.next m w.held q.rising

pub held_taken : {T : Type 0} (w : OrderView T) (m : ℕ) → IsInOrder w →
    item_at m (after_taking w).held ≡ cond (eqb m w.next) None (item_at m w.held)
held_taken w m q = taken_step w m (next_item w) refl q
