-- The places of a view in enter order.
use Rattle.std.proofs.Common.{◌≡◌, ◌<◌, ◌+◌, ℕ, zero, suc, true, false, cond, eqb, List, [], ◌∷◌, length, take, get_or, refl, ap, ◌∙◌}
use Rattle.std.proofs.Common.{arith, None, Some, slice_get, sym, unwrap_or, Bool}
use Rattle.std.specs.Map.{keys_of, lookup}
use Rattle.std.specs.List.{IsDistinct, AllByRecursion}
use Rattle.std.proofs.lemmas.Map.Keys.{IsDistinct-head, IsDistinct-tail}
use Rattle.std.proofs.lemmas.Bool.Decides.{nat_tests}
use Rattle.seam_view.specs.Replica.{placed}
use Rattle.seam_view.proofs.Numbers.{same_again, differs_too, either_way}

pub key_at : (x : ℕ) (es : List (ℕ × ℕ)) (i : ℕ) (d : ℕ × ℕ) → AllByRecursion (λ y. eqb x y ≡ false) (keys_of es) → i < length es →
    eqb (get_or es i d).0 x ≡ false
key_at x [] i d h lt = absurd (omega (arith, lt))
key_at x (p ∷ es) zero d h lt = let e : eqb x p.0 ≡ false = h.0 in grind (arith, nat_tests)
key_at x (p ∷ es) (suc i) d h lt = key_at x es i d h.1 (omega (arith, lt))

-- an entity that none of these is
pub apart_from : (x : ℕ) (es : List (ℕ × ℕ)) (i : ℕ) (q : ℕ × ℕ) → AllByRecursion (λ y. eqb x y ≡ false) (keys_of es) →
    slice_get es i ≡ Some q → eqb x q.0 ≡ false
apart_from x [] i q h at = cc
apart_from x (p ∷ es) zero q h at = ap (λ o. eqb x (unwrap_or o p).0) (sym at) ∙ h.0
apart_from x (p ∷ es) (suc i) q h at = apart_from x es i q h.1 at

-- one more of distinct entities comes last
pub placed_next : (es : List (ℕ × ℕ)) (i : ℕ) (d : ℕ × ℕ) → IsDistinct eqb (keys_of es) → i < length es →
    placed (get_or es i d).0 (get_or es i d).1 (take i es) ≡ take (i + 1) es
placed_next [] i d u lt = absurd (omega (arith, lt))
placed_next (p ∷ es) zero d u lt = refl
placed_next (p ∷ es) (suc i) d u lt =
    let other = key_at p.0 es i d (IsDistinct-head eqb p.0 (keys_of es) u) (omega (arith, lt)) in
    let rest = placed_next es i d (IsDistinct-tail eqb p.0 (keys_of es) u) (omega (arith, lt)) in
    let n : suc (i + 1) ≡ suc i + 1 = omega arith in
    ap (λ b. cond b ((p.0, (get_or es i d).1) ∷ take i es) (p ∷ placed (get_or es i d).0 (get_or es i d).1 (take i es))) other
    ∙ (ap (λ xs. p ∷ xs) rest ∙ ap (λ n. take n (p ∷ es)) n)

-- what a look-up finds of an entity at a place
pub lookup_at : (es : List (ℕ × ℕ)) (i e v : ℕ) → IsDistinct eqb (keys_of es) → slice_get es i ≡ Some (e, v) → lookup (eqb e) es ≡ Some v
lookup_at [] i e v u h = cc
lookup_at (p ∷ es) zero e v u h =
    let same : p ≡ (e, v) = ap (λ o. unwrap_or o p) h in
    (λ j. cond (eqb e (same j).0) (Some (same j).1) (lookup (eqb e) es)) ∙ ap (λ b. cond b (Some v) (lookup (eqb e) es)) (same_again e)
lookup_at (p ∷ es) (suc i) e v u h =
    let other = differs_too p.0 e (apart_from p.0 es i (e, v) (IsDistinct-head eqb p.0 (keys_of es) u) h) in
    ap (λ b. cond b (Some p.1) (lookup (eqb e) es)) other ∙ lookup_at es i e v (IsDistinct-tail eqb p.0 (keys_of es) u) h

-- what it finds once an entity was shown
looked_up_by : (e v q : ℕ) (p : ℕ × ℕ) (es : List (ℕ × ℕ)) (b c : Bool) → eqb e p.0 ≡ b → eqb q p.0 ≡ c →
    lookup (eqb q) (placed e v es) ≡ cond (eqb e q) (Some v) (lookup (eqb q) es) →
    lookup (eqb q) (cond b ((p.0, v) ∷ es) (p ∷ placed e v es)) ≡ cond (eqb e q) (Some v) (cond c (Some p.1) (lookup (eqb q) es))
looked_up_by e v q p es true true t u rest =
    let same : eqb e q ≡ true = grind (arith, nat_tests) in
    ap (λ b. cond b (Some v) (lookup (eqb q) es)) u ∙ ap (λ b. cond b (Some v) (Some p.1)) (sym same)
looked_up_by e v q p es true false t u rest =
    let other : eqb e q ≡ false = grind (arith, nat_tests) in
    ap (λ b. cond b (Some v) (lookup (eqb q) es)) u ∙ ap (λ b. cond b (Some v) (lookup (eqb q) es)) (sym other)
looked_up_by e v q p es false true t u rest =
    let other : eqb e q ≡ false = grind (arith, nat_tests) in
    ap (λ b. cond b (Some p.1) (lookup (eqb q) (placed e v es))) u ∙ ap (λ b. cond b (Some v) (Some p.1)) (sym other)
looked_up_by e v q p es false false t u rest = ap (λ b. cond b (Some p.1) (lookup (eqb q) (placed e v es))) u ∙ rest

pub lookup_placed : (e v q : ℕ) (es : List (ℕ × ℕ)) → lookup (eqb q) (placed e v es) ≡ cond (eqb e q) (Some v) (lookup (eqb q) es)
lookup_placed e v q [] = ap (λ b. cond b (Some v) None) (either_way q e)
lookup_placed e v q (p ∷ es) = looked_up_by e v q p es (eqb e p.0) (eqb q p.0) refl refl (lookup_placed e v q es)
