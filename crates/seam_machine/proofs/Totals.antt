-- Sums over lists.
use Rattle.std.proofs.Common.{◌≡◌, ℕ, zero, suc, ◌+◌, ◌<◌, ◌≤◌, List, [], ◌∷◌, ◌++◌, length, get_or, set, take, drop, ap, ◌∙◌, arith}
use Rattle.std.proofs.lemmas.List.{take_more}
use Rattle.seam_machine.specs.Totals.{total}

pub total-append : {X : Type 0} (f : X → ℕ) (xs ys : List X) → total f (xs ++ ys) ≡ total f xs + total f ys
total-append f [] ys = grind arith
total-append f (x ∷ xs) ys = let e = total-append f xs ys in omega (arith, e)

pub total-push : {X : Type 0} (f : X → ℕ) (xs : List X) (y : X) → total f (xs ++ y ∷ []) ≡ total f xs + f y
total-push f xs y = let e = total-append f xs (y ∷ []) in omega (arith, e)

pub total-take : {X : Type 0} (f : X → ℕ) (xs : List X) (i : ℕ) (d : X) → i < length xs →
    total f (take (i + 1) xs) ≡ total f (take i xs) + f (get_or xs i d)
total-take f xs i d h = ap (total f) (take_more xs i d h) ∙ total-push f (take i xs) (get_or xs i d)

pub total-set : {X : Type 0} (f : X → ℕ) (xs : List X) (i : ℕ) (y d : X) → i < length xs →
    total f (set xs i y) + f (get_or xs i d) ≡ total f xs + f y
total-set f [] i y d h = absurd (omega (arith, h))
total-set f (x ∷ xs) zero y d h = omega arith
total-set f (x ∷ xs) (suc i) y d h = let e = total-set f xs i y d (omega (arith, h)) in omega (arith, e)

pub total-drop : {X : Type 0} (f : X → ℕ) (x : X) (xs ys : List X) → xs ≡ x ∷ ys → total f (drop 1 xs) + f x ≡ total f xs
total-drop f x xs ys e = rw e (omega arith)

-- one element weighs at most what all weigh
pub get_or-le-total : {X : Type 0} (f : X → ℕ) (xs : List X) (i : ℕ) (d : X) → i < length xs → f (get_or xs i d) ≤ total f xs
get_or-le-total f [] i d h = absurd (omega (arith, h))
get_or-le-total f (x ∷ xs) zero d h = omega arith
get_or-le-total f (x ∷ xs) (suc i) d h = let e = get_or-le-total f xs i d (omega (arith, h)) in omega (arith, e)

pub total-le-length : {X : Type 0} (f : X → ℕ) (xs : List X) → ((x : X) → f x ≤ 1) → total f xs ≤ length xs
total-le-length f [] one = omega arith
total-le-length f (x ∷ xs) one = let e = total-le-length f xs one in let h = one x in omega (arith, e, h)

-- where each weighs at most 1, the others weigh less than there are elements
pub total-le-others : {X : Type 0} (f : X → ℕ) (xs : List X) (i : ℕ) (d : X) → ((x : X) → f x ≤ 1) → i < length xs →
    total f xs + 1 ≤ length xs + f (get_or xs i d)
total-le-others f [] i d one h = absurd (omega (arith, h))
total-le-others f (x ∷ xs) zero d one h = let e = total-le-length f xs one in omega (arith, e)
total-le-others f (x ∷ xs) (suc i) d one h = let e = total-le-others f xs i d one (omega (arith, h)) in let k = one x in omega (arith, e, k)
