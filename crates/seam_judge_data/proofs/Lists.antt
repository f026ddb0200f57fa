-- Lists that have the same items.
use Rattle.std.proofs.Common.{◌≡◌, ◌<◌, ℕ, suc, List, [], ◌∷◌, length, refl, ◌∙◌, ap, arith, Some}
use Rattle.std.specs.Prelude.{slice_get}

-- lists that give the same at each place are the same
pub same_by_gets : {X : Type 0} (a b : List X) → length a ≡ length b → ((k : ℕ) → k < length a → slice_get a k ≡ slice_get b k) → a ≡ b
same_by_gets [] [] long each = refl
same_by_gets [] (y ∷ ys) long each = absurd (omega (arith, long))
same_by_gets (x ∷ xs) [] long each = absurd (omega (arith, long))
same_by_gets {X} (x ∷ xs) (y ∷ ys) long each =
    let first : Some x ≡ Some y = each 0 (omega arith) in
    let head : x ≡ y = cc in
    ap (λ (z : X). z ∷ xs) head
    ∙ ap (λ (zs : List X). y ∷ zs) (same_by_gets xs ys (omega (arith, long)) (λ k within. each (suc k) (omega arith)))
