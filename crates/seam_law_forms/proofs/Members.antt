-- Elements of lists, one after the other.
use Rattle.std.proofs.Common.{◌≡◌, ◌⊎◌, ℕ, zero, suc, ◌+◌, ◌<◌, ◌≤◌, Bool, true, false, cond, List, [], ◌∷◌, ◌++◌, map, refl, subst}
use Rattle.std.proofs.Common.{arith, inl, inr, All, Option, None, Some}
use Rattle.std.specs.Prelude.{filter}
use Rattle.std.specs.List.{AllByRecursion, flat_map, range_with_len, filter_map}
use Rattle.std.proofs.lemmas.List.Elements.{All-nil, All-cons, All-head, All-tail, All-append}

-- an element of a list
abbrev pub IsIn : {X : Type 0} → List X → X → Type 0
IsIn [] x = ⊥
IsIn (y ∷ ys) x = (y ≡ x) ⊎ IsIn ys x

pub each_in : {X : Type 0} (P : X → Type 0) (xs : List X) (x : X) → AllByRecursion P xs → IsIn xs x → P x
each_in P [] x all has = absurd has
each_in P (y ∷ ys) x all (inl is) = subst P is all.0
each_in P (y ∷ ys) x all (inr later) = each_in P ys x all.1 later

pub each_all : {X : Type 0} (P : X → Type 0) (xs : List X) → ((x : X) → IsIn xs x → P x) → AllByRecursion P xs
each_all P [] each = tt
each_all P (x ∷ xs) each = (each x (inl refl), each_all P xs (λ y has. each y (inr has)))

pub all_in : {X : Type 0} (P : X → Type 0) (xs : List X) → ((x : X) → IsIn xs x → P x) → All P xs
all_in P [] each = All-nil P
all_in P (x ∷ xs) each = All-cons P x xs (each x (inl refl)) (all_in P xs (λ y has. each y (inr has)))

pub all_each : {X : Type 0} (P : X → Type 0) (xs : List X) → All P xs → (x : X) → IsIn xs x → P x
all_each P [] all x has = absurd has
all_each P (y ∷ ys) all x (inl is) = subst P is (All-head P y ys all)
all_each P (y ∷ ys) all x (inr later) = all_each P ys (All-tail P y ys all) x later

pub in_right : {X : Type 0} (xs ys : List X) (x : X) → IsIn ys x → IsIn (xs ++ ys) x
in_right [] ys x has = has
in_right (y ∷ xs) ys x has = inr (in_right xs ys x has)

pub in_append : {X : Type 0} (xs ys : List X) (x : X) → IsIn (xs ++ ys) x → IsIn xs x ⊎ IsIn ys x
in_append [] ys x has = inr has
in_append (y ∷ xs) ys x (inl is) = inl (inl is)
in_append (y ∷ xs) ys x (inr later) = elim (in_append xs ys x later) [ inl here ↦ inl (inr here) | inr there ↦ inr there ]

pub in_filter : {X : Type 0} (q : X → Bool) (xs : List X) (x : X) → IsIn (filter q xs) x → IsIn xs x × (q x ≡ true)
in_filter q [] x has = absurd has
in_filter {X} q (y ∷ ys) x has = by (in_filter q ys x) (q y) refl has
  where
    by : (IsIn (filter q ys) x → IsIn ys x × (q x ≡ true)) → (t : Bool) → q y ≡ t → IsIn (cond t (y ∷ filter q ys) (filter q ys)) x →
        IsIn (y ∷ ys) x × (q x ≡ true)
    by among true passes (inl is) = (inl is, subst (λ (z : X). q z ≡ true) is passes)
    by among true passes (inr later) = let both = among later in (inr both.0, both.1)
    by among false fails later = let both = among later in (inr both.0, both.1)

pub filter_in : {X : Type 0} (q : X → Bool) (xs : List X) (x : X) → q x ≡ true → IsIn xs x → IsIn (filter q xs) x
filter_in q [] x passes has = absurd has
filter_in {X} q (y ∷ ys) x passes has = by (filter_in q ys x passes) (q y) refl has
  where
    by : (IsIn ys x → IsIn (filter q ys) x) → (t : Bool) → q y ≡ t → (y ≡ x) ⊎ IsIn ys x →
        IsIn (cond t (y ∷ filter q ys) (filter q ys)) x
    by among true at (inl is) = inl is
    by among true at (inr later) = inr (among later)
    by among false at (inl is) = let same : q y ≡ q x = (λ i. q (is i)) in absurd (cc)
    by among false at (inr later) = among later

pub map_in : {X Y : Type 0} (f : X → Y) (xs : List X) (x : X) → IsIn xs x → IsIn (map f xs) (f x)
map_in f [] x has = absurd has
map_in f (y ∷ ys) x (inl is) = inl (λ i. f (is i))
map_in f (y ∷ ys) x (inr later) = inr (map_in f ys x later)

pub in_map : {X Y : Type 0} (f : X → Y) (xs : List X) (y : Y) → IsIn (map f xs) y → (x : X) × IsIn xs x × (f x ≡ y)
in_map f [] y has = absurd has
in_map f (x ∷ xs) y (inl is) = (x, inl refl, is)
in_map f (x ∷ xs) y (inr later) = let one = in_map f xs y later in (one.0, inr one.1, one.2)

pub picked_in : {X Y : Type 0} (f : X → Option Y) (xs : List X) (x : X) (y : Y) → f x ≡ Some y → IsIn xs x → IsIn (filter_map f xs) y
picked_in f [] x y is has = absurd has
picked_in {X} {Y} f (z ∷ zs) x y is has = by (picked_in f zs x y is) (f z) refl has
  where
    by : (IsIn zs x → IsIn (filter_map f zs) y) → (o : Option Y) → f z ≡ o → (z ≡ x) ⊎ IsIn zs x → IsIn (filter_map f (z ∷ zs)) y
    by among None at (inl same) = let wrong : f z ≡ f x = (λ i. f (same i)) in absurd (cc)
    by among None at (inr later) = rw at (among later)
    by among (Some v) at (inl same) = let one : f z ≡ f x = (λ i. f (same i)) in let v_is : v ≡ y = cc in rw at (inl v_is)
    by among (Some v) at (inr later) = rw at (inr (among later))

pub all_flat : {X Y : Type 0} (P : Y → Type 0) (f : X → List Y) (xs : List X) → All (λ (x : X). All P (f x)) xs → All P (flat_map f xs)
all_flat P f [] all = All-nil P
all_flat {X} P f (x ∷ xs) all =
    All-append P (f x) (flat_map f xs) (All-head (λ (y : X). All P (f y)) x xs all)
    (all_flat P f xs (All-tail (λ (y : X). All P (f y)) x xs all))

-- the numbers of a range
pub in_range : (a n k : ℕ) → IsIn (range_with_len a n) k → (a ≤ k) × (k < a + n)
in_range a zero k has = absurd has
in_range a (suc n) k (inl is) = (omega (arith, is), omega (arith, is))
in_range a (suc n) k (inr later) = let both = in_range (a + 1) n k later in (omega (arith, both.0), omega (arith, both.1))
