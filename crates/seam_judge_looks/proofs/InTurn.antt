-- Lines that may be shown one after another, one by one.
use Rattle.std.proofs.Common.{◌≡◌, ◌+◌, ◌<◌, ℕ, zero, suc, Bool, false, List, [], ◌∷◌, length, map, take, get_or, Bor, sym, subst, arith}
use Rattle.std.proofs.Common.{IsTrue, ◌↔◌}
use Rattle.seam_rule_rounds.specs.Prelude.{Shown, ClientReplica, after_shown, after_all_shown, MayShow, MayShowAll}

-- one of all that may be shown may be shown when it is its turn
turn_of : (me : ℕ) (c : ClientReplica) (xs : List (Bor Shown)) (i : ℕ) (d : Bor Shown) → i < length xs →
    MayShowAll me c (map (λ x. x.now) xs) →
    MayShow me (after_all_shown c (map (λ x. x.now) (take i xs))) (get_or xs i d).now
turn_of me c [] i d within may = absurd (omega (arith, within))
turn_of me c (x ∷ xs) zero d within may = may.0
turn_of me c (x ∷ xs) (suc i) d within may = turn_of me (after_shown c x.now) xs i d (omega (arith, within)) may.1

one_more : (me : ℕ) (c : ClientReplica) (xs : List (Bor Shown)) (i : ℕ) (d : Bor Shown) → i < length xs →
    MayShowAll me c (map (λ x. x.now) (take i xs)) → MayShow me (after_all_shown c (map (λ x. x.now) (take i xs))) (get_or xs i d).now →
    MayShowAll me c (map (λ x. x.now) (take (suc i) xs))
one_more me c [] i d within may next = absurd (omega (arith, within))
one_more me c (x ∷ xs) zero d within may next = (next, tt)
one_more me c (x ∷ xs) (suc i) d within may next = (may.0, one_more me (after_shown c x.now) xs i d (omega (arith, within)) may.1 next)

module _ (me : ℕ) (c now : ClientReplica) (xs : List (Bor Shown)) (i : ℕ) (x : Bor Shown) (may : Bool) (within : i < length xs)
    (item : x ≡ get_or xs i x) (is : now ≡ after_all_shown c (map (λ y. y.now) (take i xs))) (decides : IsTrue may ↔ MayShow me now x.now)
  where
    here : MayShow me now x.now → MayShow me (after_all_shown c (map (λ y. y.now) (take i xs))) (get_or xs i x).now
    here h = subst (λ (y : Bor Shown). MayShow me (after_all_shown c (map (λ y. y.now) (take i xs))) y.now) item
        (subst (λ (q : ClientReplica). MayShow me q x.now) is h)

    there : MayShow me (after_all_shown c (map (λ y. y.now) (take i xs))) (get_or xs i x).now → MayShow me now x.now
    there h = subst (λ (q : ClientReplica). MayShow me q x.now) (sym is)
        (subst (λ (y : Bor Shown). MayShow me (after_all_shown c (map (λ y. y.now) (take i xs))) y.now) (sym item) h)

    -- where one may not, not all may
    pub fails : may ≡ false → (IsTrue false ↔ MayShowAll me c (map (λ y. y.now) xs))
    fails not_ = ((λ never. absurd (cc)), (λ all. subst IsTrue not_ (decides.1 (there (turn_of me c xs i x within all)))))

    -- where one more may, as many may
    pub goes_on : IsTrue may → MayShowAll me c (map (λ y. y.now) (take i xs)) → MayShowAll me c (map (λ y. y.now) (take (i + 1) xs))
    goes_on so before =
        let next : suc i ≡ i + 1 = omega arith in
        subst (λ (n : ℕ). MayShowAll me c (map (λ y. y.now) (take n xs))) next (one_more me c xs i x within before (here (decides.0 so)))
