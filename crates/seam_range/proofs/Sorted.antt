-- Numbers in strictly rising order, and entries in the order of their keys.
use Rattle.std.proofs.Common.{◌≡◌, ◌<◌, ℕ, Bool, true, false, cond, ◌||◌, List, [], ◌∷◌, length, Some, refl, sym, ap, ◌∙◌, subst, arith}
use Rattle.std.specs.Ordering.{nat_cmp, is_eq}
use Rattle.std.specs.Cmp.{nat_cmp_total}
use Rattle.std.specs.Map.{lookup, keys_of}
use Rattle.std.specs.BTreeMap.{is_at}
use Rattle.std.specs.List.{AllByRecursion, list_any, filter}
use Rattle.std.specs.List.Sorted.{IsStrictlySortedBy}
use Rattle.std.specs.declared.cmp.Ordering.TheVariants.{Less}
use Rattle.std.proofs.lemmas.Map.Keys.{sorted_head, sorted_tail}
use Rattle.std.proofs.lemmas.Bool.Decides.{nat_tests}
use Rattle.std.specs.FinMap as map

abbrev pub IsBelow : ℕ → List ℕ → Type 0
IsBelow x ys = AllByRecursion (λ y. nat_cmp x y ≡ Less) ys

less_of : (x y : ℕ) → nat_cmp x y ≡ Less → x < y
less_of x y e = grind (arith, nat_tests)

below_not : (x y : ℕ) → nat_cmp x y ≡ Less → is_eq (nat_cmp x y) ≡ false
below_not x y e = ap is_eq e

pub is_number : (x y : ℕ) → is_eq (nat_cmp x y) ≡ true → x ≡ y
is_number x y t = grind (arith, nat_tests)

pub same_number : (x : ℕ) → is_eq (nat_cmp x x) ≡ true
same_number x = grind (arith, nat_tests)

absent : (x : ℕ) (ys : List ℕ) → IsBelow x ys → list_any (is_at (nat_cmp x)) ys ≡ false
absent x [] h = refl
absent x (y ∷ ys) h = rw (below_not x y h.0) (absent x ys h.1)

above_step : (x q y : ℕ) (ys : List ℕ) (b : Bool) → is_eq (nat_cmp q y) ≡ b → nat_cmp x y ≡ Less →
    (b || list_any (is_at (nat_cmp q)) ys) ≡ true → (list_any (is_at (nat_cmp q)) ys ≡ true → x < q) → x < q
above_step x q y ys true t less h rest = let e = is_number q y t in let l = less_of x y less in omega (arith, e, l)
above_step x q y ys false t less h rest = rest h

above : (x q : ℕ) (ys : List ℕ) → IsBelow x ys → list_any (is_at (nat_cmp q)) ys ≡ true → x < q
above x q [] h t = cc
above x q (y ∷ ys) h t = above_step x q y ys (is_eq (nat_cmp q y)) refl h.0 t (above x q ys h.1)

-- a number that a rising list has is its first or greater
first_or_above : (q x : ℕ) (xs : List ℕ) (b : Bool) → is_eq (nat_cmp q x) ≡ b → IsBelow x xs →
    (b || list_any (is_at (nat_cmp q)) xs) ≡ true → (q < x → ⊥)
first_or_above q x xs true t h any lt = let e = is_number q x t in omega (arith, e, lt)
first_or_above q x xs false t h any lt = let l = above x q xs h any in omega (arith, l, lt)

or_first : (b c : Bool) → b ≡ true → (b || c) ≡ true
or_first b c e = rw e refl

same_first : (x y : ℕ) (xs ys : List ℕ) → IsBelow x xs → IsBelow y ys →
    ((q : ℕ) → list_any (is_at (nat_cmp q)) (x ∷ xs) ≡ list_any (is_at (nat_cmp q)) (y ∷ ys)) → x ≡ y
same_first x y xs ys h k is =
    let here = or_first (is_eq (nat_cmp x x)) (list_any (is_at (nat_cmp x)) xs) (same_number x) in
    let there = or_first (is_eq (nat_cmp y y)) (list_any (is_at (nat_cmp y)) ys) (same_number y) in
    let a = first_or_above x y ys (is_eq (nat_cmp x y)) refl k (sym (is x) ∙ here) in
    let b = first_or_above y x xs (is_eq (nat_cmp y x)) refl h (is y ∙ there) in
    omega (arith, a, b)

rest_step : (q x : ℕ) (xs ys : List ℕ) (b : Bool) → is_eq (nat_cmp q x) ≡ b → IsBelow x xs → IsBelow x ys →
    (b || list_any (is_at (nat_cmp q)) xs) ≡ (b || list_any (is_at (nat_cmp q)) ys) →
    list_any (is_at (nat_cmp q)) xs ≡ list_any (is_at (nat_cmp q)) ys
rest_step q x xs ys true t h k is =
    let e : x ≡ q = sym (is_number q x t) in
    ap (λ r. list_any (is_at (nat_cmp r)) xs) (sym e)
    ∙ (absent x xs h ∙ (sym (absent x ys k) ∙ ap (λ r. list_any (is_at (nat_cmp r)) ys) e))
rest_step q x xs ys false t h k is = is

-- two rising lists with the same numbers are one list
pub sorted_same : (xs ys : List ℕ) → IsStrictlySortedBy nat_cmp xs → IsStrictlySortedBy nat_cmp ys →
    ((q : ℕ) → list_any (is_at (nat_cmp q)) xs ≡ list_any (is_at (nat_cmp q)) ys) → xs ≡ ys
sorted_same [] [] o p is = refl
sorted_same [] (y ∷ ys) o p is =
    let h : true ≡ false = sym (or_first (is_eq (nat_cmp y y)) (list_any (is_at (nat_cmp y)) ys) (same_number y)) ∙ sym (is y) in
    cc
sorted_same (x ∷ xs) [] o p is =
    let h : true ≡ false = sym (or_first (is_eq (nat_cmp x x)) (list_any (is_at (nat_cmp x)) xs) (same_number x)) ∙ is x in
    cc
sorted_same (x ∷ xs) (y ∷ ys) o p is =
    let h = sorted_head nat_cmp x xs o in
    let k = sorted_head nat_cmp y ys p in
    let e : x ≡ y = same_first x y xs ys h k is in
    let kx : IsBelow x ys = subst (λ n. IsBelow n ys) (sym e) k in
    let rest =
    sorted_same xs ys (sorted_tail nat_cmp x xs o) (sorted_tail nat_cmp y ys p)
    (λ q. rest_step q x xs ys (is_eq (nat_cmp q x)) refl h kx (is q
    ∙ ap (λ n. is_eq (nat_cmp q n) || list_any (is_at (nat_cmp q)) ys) (sym e))) in
    λ i. e i ∷ rest i

below_by_filter : {X : Type 0} (x : ℕ) (t : ℕ × X → Bool) (es : List (ℕ × X)) → IsBelow x (keys_of es) → IsBelow x (keys_of (filter t es))
below_by_filter x t [] h = tt
below_by_filter x t (e ∷ es) h =
    elim (t e) as (λ b. IsBelow x (keys_of (cond b (e ∷ filter t es) (filter t es)))) [
      | true ↦ (h.0, below_by_filter x t es h.1)
      | false ↦ below_by_filter x t es h.1
    ]

-- what a filter leaves is in order too
pub sorted_by_filter : {X : Type 0} (t : ℕ × X → Bool) (es : List (ℕ × X)) → IsStrictlySortedBy nat_cmp (keys_of es) →
    IsStrictlySortedBy nat_cmp (keys_of (filter t es))
unfolding IsStrictlySortedBy
sorted_by_filter t [] o = tt
sorted_by_filter t (e ∷ es) o =
    elim (t e) as (λ b. IsStrictlySortedBy nat_cmp (keys_of (cond b (e ∷ filter t es) (filter t es))))
    [ true ↦ (below_by_filter e.0 t es o.0, sorted_by_filter t es o.1) | false ↦ sorted_by_filter t es o.1 ]

pub no_length : {A : Type 0} (xs : List A) → length xs ≡ 0 → xs ≡ []
no_length [] e = refl
no_length (x ∷ xs) e = absurd (omega arith)

put_below : {X : Type 0} (k : ℕ) (v : X) (es : List (ℕ × X)) → IsBelow k (keys_of es) → map.put nat_cmp k v es ≡ (k, v) ∷ es
put_below k v [] h = refl
put_below k v (e ∷ es) h = rw h.0 refl

-- entries in order are those of the map that is made of them
pub entries_when_sorted : {X : Type 0} (es : List (ℕ × X)) → IsStrictlySortedBy nat_cmp (keys_of es) →
    map.entries (map.from_entries {R = nat_cmp} es) ≡ es
entries_when_sorted [] o = no_length _ (sym (map.len-entries map.empty) ∙ map.len-empty nat_cmp _)
entries_when_sorted (e ∷ es) o =
    map.entries-insert nat_cmp_total _ e.0 e.1
    ∙ (ap (map.put nat_cmp e.0 e.1) (entries_when_sorted es (sorted_tail nat_cmp e.0 (keys_of es) o))
    ∙ put_below e.0 e.1 es (sorted_head nat_cmp e.0 (keys_of es) o))

pub lookup_of_find : {X : Type 0} (q : ℕ) (es : List (ℕ × X)) → map.find nat_cmp q es ≡ lookup (is_at (nat_cmp q)) es
lookup_of_find q [] = refl
lookup_of_find q (e ∷ es) = ap (λ o. cond (is_eq (nat_cmp q e.0)) (Some e.1) o) (lookup_of_find q es)
