-- What is at a place of a list after one more is pushed, or one is written over.
use Rattle.std.proofs.Common.{◌≡◌, ◌<◌, ◌⊎◌, inl, inr, ℕ, zero, suc, true, false, List, [], ◌∷◌, ◌++◌, length, None}
use Rattle.std.proofs.Common.{Some}
use Rattle.std.proofs.Common.{refl, sym, ap, is_some, unwrap_or, arith}
use Rattle.std.specs.Prelude.{slice_get, slice_set}
use Rattle.std.proofs.Math.Logic.{⊎_elim}

pub none_some : {A : Type 0} (x : A) → None ≡ Some x → ⊥
none_some x e = let f : false ≡ true = ap is_some e in cc

pub some_is : {A : Type 0} (x y : A) → Some x ≡ Some y → x ≡ y
some_is x y e = ap (λ o. unwrap_or o x) e

pub get_within : (xs : List ℕ) (i k : ℕ) → slice_get xs i ≡ Some k → i < length xs
get_within [] i k h = absurd (none_some k h)
get_within (x ∷ xs) zero k h = omega arith
get_within (x ∷ xs) (suc i) k h = let lt = get_within xs i k h in omega (arith, lt)

pub get_kept : (xs ys : List ℕ) (i k : ℕ) → slice_get xs i ≡ Some k → slice_get (xs ++ ys) i ≡ Some k
get_kept [] ys i k h = absurd (none_some k h)
get_kept (x ∷ xs) ys zero k h = h
get_kept (x ∷ xs) ys (suc i) k h = get_kept xs ys i k h

pub get_last : (xs : List ℕ) (x : ℕ) → slice_get (xs ++ x ∷ []) (length xs) ≡ Some x
get_last [] x = refl
get_last (y ∷ xs) x = get_last xs x

pub get_of_push : (xs : List ℕ) (x i k : ℕ) → slice_get (xs ++ x ∷ []) i ≡ Some k →
    (slice_get xs i ≡ Some k) ⊎ ((i ≡ length xs) × (k ≡ x))
get_of_push [] x zero k h = inr (refl, sym (some_is x k h))
get_of_push [] x (suc i) k h = absurd (none_some k h)
get_of_push (y ∷ xs) x zero k h = inl h
get_of_push (y ∷ xs) x (suc i) k h = ⊎_elim (λ p. inl p) (λ p. inr (ap suc p.0, p.1)) (get_of_push xs x i k h)

pub get_of_set : (xs : List ℕ) (i v j k : ℕ) → slice_get (slice_set xs i v) j ≡ Some k →
    ((j ≡ i) × (k ≡ v)) ⊎ (((j ≡ i) → ⊥) × (slice_get xs j ≡ Some k))
get_of_set [] i v j k h = absurd (none_some k h)
get_of_set (x ∷ xs) zero v zero k h = inl (refl, sym (some_is v k h))
get_of_set (x ∷ xs) zero v (suc j) k h = inr (λ e. omega (arith, e), h)
get_of_set (x ∷ xs) (suc i) v zero k h = inr (λ e. omega (arith, e), h)
get_of_set (x ∷ xs) (suc i) v (suc j) k h =
    ⊎_elim (λ p. inl (ap suc p.0, p.1)) (λ p. inr (λ e. p.0 (omega (arith, e)), p.1)) (get_of_set xs i v j k h)

pub get_set_here : (xs : List ℕ) (i v : ℕ) → i < length xs → slice_get (slice_set xs i v) i ≡ Some v
get_set_here [] i v lt = absurd (omega (arith, lt))
get_set_here (x ∷ xs) zero v lt = refl
get_set_here (x ∷ xs) (suc i) v lt = get_set_here xs i v (omega (arith, lt))

pub get_set_other : (xs : List ℕ) (i v j k : ℕ) → ((j ≡ i) → ⊥) → slice_get xs j ≡ Some k → slice_get (slice_set xs i v) j ≡ Some k
get_set_other [] i v j k other h = absurd (none_some k h)
get_set_other (x ∷ xs) zero v zero k other h = absurd (other refl)
get_set_other (x ∷ xs) zero v (suc j) k other h = h
get_set_other (x ∷ xs) (suc i) v zero k other h = h
get_set_other (x ∷ xs) (suc i) v (suc j) k other h = get_set_other xs i v j k (λ e. other (ap suc e)) h
