-- Leaves boundary by boundary, places position by position, and ghosts cell by cell.
use Rattle.std.proofs.Common.{◌≡◌, ◌+◌, ◌-◌, ◌<◌, ◌≤◌, ℕ, zero, suc, Bool, true, false, cond, List, [], ◌∷◌, ◌++◌, length, map, take}
use Rattle.std.proofs.Common.{get_or}
use Rattle.std.proofs.Common.{refl, sym, ◌∙◌, ap, arith, append_assoc}
use Rattle.std.specs.Prelude.{filter, ◌==◌, ◌&&◌, nat_le}
use Rattle.std.specs.List.{range_with_len}
use Rattle.std.proofs.lemmas.List.Elements.{filter-append}
use Rattle.std.proofs.lemmas.List.{map-append}
use Rattle.seam_rule_rounds.specs.Prelude.{Pos, place_along, Division, cut_after, leaf_after, Distances, Place, settled, settled_all}
use Rattle.seam_rule_rounds.proofs.Public.{range_more}

-- the leaf after one boundary more
pub leaf_more : (t : Division) (b leaf new : ℕ) (p : Pos) → 1 ≤ b → leaf ≡ leaf_after t (b - 1) p →
    new ≡ cond (((cut_after t (b - 1)).cell == leaf)
    && nat_le (cut_after t (b - 1)).boundary.at (place_along (cut_after t (b - 1)).boundary.axis p)) b leaf → new ≡ leaf_after t b p
leaf_more t zero leaf new p from was is = absurd (omega (arith, from))
leaf_more t (suc n) leaf new p from was is =
    let before : suc n - 1 ≡ n = omega arith in
    let then_ : ℕ → ℕ → ℕ = λ (m l : ℕ). cond (((cut_after t m).cell == l)
    && nat_le (cut_after t m).boundary.at (place_along (cut_after t m).boundary.axis p)) (suc n) l in
    is ∙ ap (then_ (suc n - 1)) (was ∙ ap (λ (m : ℕ). leaf_after t m p) before) ∙ ap (λ (m : ℕ). then_ m (leaf_after t n p)) before

settled_next : (d : Distances) (t : Division) (was : Place) (path : List Pos) (i : ℕ) (p : Pos) → i < length path →
    settled_all d t was (take (suc i) path) ≡ settled d t (settled_all d t was (take i path)) (get_or path i p)
settled_next d t was [] i p within = absurd (omega (arith, within))
settled_next d t was (q ∷ path) zero p within = refl
settled_next d t was (q ∷ path) (suc i) p within = settled_next d t (settled d t was q) path i p (omega (arith, within))

-- settled at one position more
pub settled_more : (d : Distances) (t : Division) (was : Place) (path : List Pos) (i : ℕ) (p : Pos) (place new : Place) → i < length path →
    place ≡ settled_all d t was (take i path) → new ≡ settled d t place (get_or path i p) → new ≡ settled_all d t was (take (i + 1) path)
settled_more d t was path i p place new within before is =
    let next : suc i ≡ i + 1 = omega arith in
    is ∙ ap (λ (q : Place). settled d t q (get_or path i p)) before ∙ sym (settled_next d t was path i p within)
    ∙ ap (λ (n : ℕ). settled_all d t was (take n path)) next

-- what the numbers below one more give that pass a test
pub chosen_more : {X : Type 0} (f : ℕ → X) (test : ℕ → Bool) (n : ℕ) (first out new : List X) →
    out ≡ first ++ map f (filter test (range_with_len 0 n)) → new ≡ out ++ cond (test n) (f n ∷ []) [] →
    new ≡ first ++ map f (filter test (range_with_len 0 (n + 1)))
chosen_more {X} f test n first out new was is =
    let last : 0 + n ≡ n = omega arith in
    let next : suc n ≡ n + 1 = omega arith in
    is ∙ ap (λ (xs : List X). xs ++ cond (test n) (f n ∷ []) []) was
    ∙ append_assoc first (map f (filter test (range_with_len 0 n))) (cond (test n) (f n ∷ []) [])
    ∙ ap (λ (xs : List X). first ++ (map f (filter test (range_with_len 0 n)) ++ xs)) (by (test n))
    ∙ ap (λ (xs : List X). first ++ xs)
    (sym (map-append f (filter test (range_with_len 0 n)) (filter test (n ∷ [])))
    ∙ ap (map f) (sym (filter-append test (range_with_len 0 n) (n ∷ []))
    ∙ ap (filter test) (ap (λ (k : ℕ). range_with_len 0 n ++ k ∷ []) (sym last) ∙ sym (range_more 0 n)
    ∙ ap (range_with_len 0) next)))
  where
    by : (b : Bool) → cond b (f n ∷ []) [] ≡ map f (cond b (n ∷ []) [])
    by true = refl
    by false = refl
