-- The place of an entity among what is known, in rising number.
use Rattle.std.proofs.Common.{◌≡◌, ◌≢◌, ℕ, zero, suc, ◌<◌, ◌≤◌, true, false, eqb, List, [], ◌∷◌, length, map, None, Some, get_or, refl}
use Rattle.std.proofs.Common.{Bool, ◌∙◌, ap, sym, cond, unwrap_or, arith}
use Rattle.std.specs.Ordering.{nat_cmp}
use Rattle.std.specs.List.{AllWithin, AllByRecursion}
use Rattle.std.specs.List.Sorted.{IsNonDecreasingBy, IsStrictlySortedBy}
use Rattle.std.specs.declared.cmp.Ordering.TheVariants.{Less}
use Rattle.std.proofs.lemmas.Map.Keys.{sorted_head, sorted_tail}
use Rattle.std.proofs.lemmas.Bool.Decides.{nat_tests}
use Rattle.seam_view.specs.declared.Seen.{Seen}
use Rattle.seam_view.specs.Replica.{seen_of}
use Rattle.seam_view.proofs.ByNumber.{rising_at}
use Rattle.seam_view.proofs.Numbers.{number_is}

abbrev pub entities : List Seen → List ℕ
entities known = map (λ s. s.entity) known

less_of : (x y : ℕ) → nat_cmp x y ≡ Less → x < y
less_of x y e = grind (arith, nat_tests)

at_above : (x : ℕ) (xs : List Seen) (k : ℕ) (d : Seen) → AllByRecursion (λ y. nat_cmp x y ≡ Less) (entities xs) → k < length xs →
    x < (get_or xs k d).entity
at_above x [] k d h lt = absurd (omega (arith, lt))
at_above x (s ∷ xs) zero d h lt = less_of x s.entity h.0
at_above x (s ∷ xs) (suc k) d h lt = at_above x xs k d h.1 (omega (arith, lt))

pub rising_when_sorted : (xs : List Seen) → IsStrictlySortedBy nat_cmp (entities xs) → IsNonDecreasingBy (λ s. s.entity) xs
rising_when_sorted xs o = rising_at (λ s. s.entity) xs o

is_same : (a b : ℕ) → a ≡ b → eqb a b ≡ true
is_same a b e = grind (arith, nat_tests)

differs : (a b : ℕ) → (a ≡ b → ⊥) → eqb a b ≡ false
differs a b n =
    elim (eqb a b) as (λ t. eqb a b ≡ t → eqb a b ≡ false) [
      | true ↦ λ h. absurd (n (let s : a ≡ b = grind (arith, nat_tests) in s))
      | false ↦ λ h. h
    ] refl

none_above : (e x : ℕ) (xs : List Seen) → e ≤ x → AllByRecursion (λ y. nat_cmp x y ≡ Less) (entities xs) → seen_of e xs ≡ None
none_above e x [] le h = refl
none_above e x (s ∷ xs) le h =
    let l = less_of x s.entity h.0 in
    rw (differs s.entity e (λ q. omega (arith, q, le, l))) (none_above e x xs le h.1)

pub seen_here : (e : ℕ) (xs : List Seen) (at : ℕ) (d : Seen) → AllWithin (λ s. s.entity < e) xs 0 at → at < length xs →
    (get_or xs at d).entity ≡ e → seen_of e xs ≡ Some (get_or xs at d)
seen_here e [] at d b lt q = absurd (omega (arith, lt))
seen_here e (s ∷ xs) zero d b lt q = rw (is_same s.entity e q) refl
seen_here e (s ∷ xs) (suc at) d b lt q =
    let first = b 0 d (omega arith) (omega arith) in
    rw (differs s.entity e (λ q. omega (arith, q, first)))
    (seen_here e xs at d (λ k d l h. b (suc k) d (omega arith) (omega (arith, h))) (omega (arith, lt)) q)

pub seen_missing : (e : ℕ) (xs : List Seen) (at : ℕ) → IsStrictlySortedBy nat_cmp (entities xs) → AllWithin (λ s. s.entity < e) xs 0 at →
    AllWithin (λ s. e ≤ s.entity) xs at (length xs) → ((d : Seen) → at < length xs → (get_or xs at d).entity ≢ e) → seen_of e xs ≡ None
seen_missing e [] at o b a ne = refl
seen_missing e (s ∷ xs) zero o b a ne =
    let first = a 0 s (omega arith) (omega arith) in
    rw (differs s.entity e (ne s (omega arith))) (none_above e s.entity xs first (sorted_head nat_cmp s.entity (entities xs) o))
seen_missing e (s ∷ xs) (suc at) o b a ne =
    let first = b 0 s (omega arith) (omega arith) in
    rw (differs s.entity e (λ q. omega (arith, q, first)))
    (seen_missing e xs at (sorted_tail nat_cmp s.entity (entities xs) o) (λ k d l h. b (suc k) d (omega arith) (omega (arith, h)))
    (λ k d l h. a (suc k) d (omega (arith, l)) (omega (arith, h))) (λ d lt. ne d (omega (arith, lt))))

-- among entities in rising number one with the number is the one that is known of the entity
pub seen_at : (e : ℕ) (xs : List Seen) (at : ℕ) (d : Seen) → IsStrictlySortedBy nat_cmp (entities xs) → at < length xs →
    (get_or xs at d).entity ≡ e → seen_of e xs ≡ Some (get_or xs at d)
seen_at e [] at d o lt q = absurd (omega (arith, lt))
seen_at e (s ∷ xs) zero d o lt q = rw (is_same s.entity e q) refl
seen_at e (s ∷ xs) (suc at) d o lt q =
    let first = at_above s.entity xs at d (sorted_head nat_cmp s.entity (entities xs) o) (omega (arith, lt)) in
    rw (differs s.entity e (λ same. omega (arith, same, q, first)))
    (seen_at e xs at d (sorted_tail nat_cmp s.entity (entities xs) o) (omega (arith, lt)) q)

known_by : (e : ℕ) (x s : Seen) (xs : List Seen) (b : Bool) → eqb x.entity e ≡ b → (seen_of e xs ≡ Some s → s.entity ≡ e) →
    cond b (Some x) (seen_of e xs) ≡ Some s → s.entity ≡ e
known_by e x s xs true t rest h = ap (λ o. (unwrap_or o x).entity) (sym h) ∙ number_is x.entity e t
known_by e x s xs false t rest h = rest h

-- what is known of an entity is of that entity
pub known_of : (e : ℕ) (xs : List Seen) (s : Seen) → seen_of e xs ≡ Some s → s.entity ≡ e
known_of e [] s h = cc
known_of e (x ∷ xs) s h = known_by e x s xs (eqb x.entity e) refl (known_of e xs s) h
