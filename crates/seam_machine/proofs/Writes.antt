-- What a list is after one place was written.
use Rattle.std.proofs.Common.{◌≡◌, ℕ, zero, suc, ◌+◌, ◌<◌, ◌≤◌, ◌⊎◌, List, [], ◌∷◌, ◌++◌, length, Some, get_or, set, refl, ap, arith, inl}
use Rattle.std.proofs.Common.{inr}
use Rattle.std.specs.Prelude.{slice_get}
use Rattle.std.specs.List.{All}
use Rattle.std.proofs.lemmas.Bool.{cases_eq}
use Rattle.std.proofs.lemmas.List.{length-set, get_or-set_same, get_or-set_other}

-- what is read at j after v was written at i
pub data Written {X : Type 0} (xs : List X) (v d : X) (i j : ℕ) (got : X) : Type 0 where
  here : j ≡ i → i < length xs → got ≡ v → Written xs v d i j got
  other : (j ≡ i → length xs ≤ i) → got ≡ get_or xs j d → Written xs v d i j got

pub written : {X : Type 0} (xs : List X) (i : ℕ) (v d : X) (j : ℕ) → Written xs v d i j (get_or (set xs i v) j d)
written [] i v d j = other (λ _. omega arith) refl
written (x ∷ xs) zero v d zero = here refl (omega arith) refl
written (x ∷ xs) zero v d (suc j) = other (λ e. absurd (omega (arith, e))) refl
written (x ∷ xs) (suc i) v d zero = other (λ e. absurd (omega (arith, e))) refl
written (x ∷ xs) (suc i) v d (suc j) = elim (written xs i v d j) [
  | here e lt g ↦ here (ap suc e) (omega (arith, lt)) g
  | other n g ↦ other (λ e. let h = n (omega (arith, e)) in omega (arith, h)) g
]

-- the element at each place, after one was replaced
pub slice_get-set : {X : Type 0} (xs : List X) (k : ℕ) (y : X) (j : ℕ) → k < length xs →
    ((j ≡ k) × (slice_get (set xs k y) j ≡ Some y)) ⊎ ((j ≡ k → ⊥) × (slice_get (set xs k y) j ≡ slice_get xs j))
slice_get-set [] k y j lt = absurd (omega (arith, lt))
slice_get-set (x ∷ xs) zero y zero lt = inl (refl, refl)
slice_get-set (x ∷ xs) zero y (suc j) lt = inr ((λ e. omega (arith, e)), refl)
slice_get-set (x ∷ xs) (suc k) y zero lt = inr ((λ e. omega (arith, e)), refl)
slice_get-set (x ∷ xs) (suc k) y (suc j) lt =
    elim (slice_get-set xs k y j (omega (arith, lt))) [ inl h ↦ inl (ap suc h.0, h.1) | inr h ↦ inr ((λ e. h.0 (omega (arith, e))), h.1) ]

pub set_here : {X : Type 0} (xs : List X) (k : ℕ) (y : X) → k < length xs → slice_get (set xs k y) k ≡ Some y
set_here xs k y lt = elim (slice_get-set xs k y k lt) [ inl h ↦ h.1 | inr h ↦ absurd (h.0 refl) ]

pub set_there : {X : Type 0} (xs : List X) (k : ℕ) (y : X) (j : ℕ) → k < length xs → (j ≡ k → ⊥) → slice_get (set xs k y) j ≡ slice_get xs j
set_there xs k y j lt n = elim (slice_get-set xs k y j lt) [ inl h ↦ absurd (n h.0) | inr h ↦ h.1 ]

-- what is true of all elements stays true where it is true of the new one
pub All-set_kept : {X : Type 0} (P : X → Type 0) (xs : List X) (i : ℕ) (y : X) → (i < length xs → P y) → All P xs → All P (set xs i y)
All-set_kept P xs i y f h j d lt =
    let short : j < length xs = omega (arith, length-set xs i y) in
    elim (cases_eq j i) [
      | inl e ↦ let here : i < length xs = omega arith in rw e (rw get_or-set_same (f here))
      | inr ne ↦ rw get_or-set_other (h j d short)
    ]

-- an element of two lists one after the other
pub slice_get-append_left : {X : Type 0} (xs ys : List X) (i : ℕ) → i < length xs → slice_get (xs ++ ys) i ≡ slice_get xs i
slice_get-append_left [] ys i lt = absurd (omega (arith, lt))
slice_get-append_left (x ∷ xs) ys zero lt = refl
slice_get-append_left (x ∷ xs) ys (suc i) lt = slice_get-append_left xs ys i (omega (arith, lt))

pub slice_get-append_right : {X : Type 0} (xs ys : List X) (i k : ℕ) → i ≡ length xs + k → slice_get (xs ++ ys) i ≡ slice_get ys k
slice_get-append_right [] ys i k e = ap (slice_get ys) (let h : i ≡ k = omega (arith, e) in h)
slice_get-append_right (x ∷ xs) ys zero k e = absurd (omega (arith, e))
slice_get-append_right (x ∷ xs) ys (suc i) k e = slice_get-append_right xs ys i k (omega (arith, e))
