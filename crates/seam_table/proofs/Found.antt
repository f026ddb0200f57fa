-- What a search of the entries of a finite map finds.
use Rattle.std.proofs.Common.{◌≡◌, ℕ, Bool, true, false, cond, ◌&&◌, T, List, [], ◌∷◌, find, Some, refl, sym, ap, ◌∙◌}
use Rattle.std.specs.Ordering.{nat_cmp, is_lt, is_eq, ordering_reverse}
use Rattle.std.specs.declared.cmp.Ordering.{Ordering}
use Rattle.std.specs.declared.cmp.Ordering.TheVariants.{Less, Equal, Greater}
use Rattle.std.specs.Cmp.{nat_cmp_total, tied_itself}
use Rattle.std.specs.FinMap as map
use Rattle.std.specs.FinMap.Entries.{is_sorted, below_all, find as key_find}

first : (a b : Bool) → T (a && b) → T a
first true b p = tt
first false b p = p

second : (a b : Bool) → T (a && b) → T b
second true b p = p
second false b p = absurd p

less : (o : Ordering) → T (is_lt o) → o ≡ Less
less Less p = refl
less Equal p = absurd p
less Greater p = absurd p

-- an entry of a map that a search finds is what the map has there
module _ {X : Type 0} (t : ℕ × X → Bool) where
  found_below : (q : ℕ) (es : List (ℕ × X)) (p : ℕ × X) → T (below_all nat_cmp q es) → find t es ≡ Some p → nat_cmp q p.0 ≡ Less
  found_below q [] p h e = cc
  found_below q (x ∷ es) p h e = by (t x) (found_below q es p (second _ _ h)) e
    where
      by : (b : Bool) → (find t es ≡ Some p → nat_cmp q p.0 ≡ Less) → cond b (Some x) (find t es) ≡ Some p → nat_cmp q p.0 ≡ Less
      by true rest e = let same : x ≡ p = cc in ap (λ y. nat_cmp q y.0) (sym same) ∙ less _ (first _ _ h)
      by false rest e = rest e

  found_in : (es : List (ℕ × X)) (p : ℕ × X) → T (is_sorted nat_cmp es) → find t es ≡ Some p →
      (key_find nat_cmp p.0 es ≡ Some p.1) × (t p ≡ true)
  found_in [] p h e = cc
  found_in (x ∷ es) p h e = by (t x) refl (found_in es p (second _ _ h)) e
    where
      turned : (q r : ℕ) → nat_cmp q r ≡ Less → is_eq (nat_cmp r q) ≡ false
      turned q r l = ap is_eq (nat_cmp_total.antisymm r q ∙ ap ordering_reverse l)

      by : (b : Bool) → t x ≡ b → (find t es ≡ Some p → (key_find nat_cmp p.0 es ≡ Some p.1) × (t p ≡ true)) →
          cond b (Some x) (find t es) ≡ Some p → (cond (is_eq (nat_cmp p.0 x.0)) (Some x.1) (key_find nat_cmp p.0 es) ≡ Some p.1)
          × (t p ≡ true)
      by true is rest e =
          let same : x ≡ p = cc in (
            ap (λ y. cond (is_eq (nat_cmp y.0 x.0)) (Some x.1) (key_find nat_cmp y.0 es)) (sym same)
                ∙ ap (λ r. cond (is_eq r) (Some x.1) (key_find nat_cmp x.0 es)) (tied_itself nat_cmp_total x.0)
                ∙ ap (λ y. Some y.1) same,
            ap t (sym same) ∙ is,
          )
      by false is rest e =
          let k = rest e in
          (ap (λ b. cond b (Some x.1) (key_find nat_cmp p.0 es)) (turned x.0 p.0 (found_below x.0 es p (first _ _ h) e)) ∙ k.0, k.1)

  pub found : (m : map.FinMap nat_cmp X) (p : ℕ × X) → find t (map.entries m) ≡ Some p → (map.get m p.0 ≡ Some p.1) × (t p ≡ true)
  found m p e = let k = found_in (map.entries m) p (map.entries_sorted m) e in (map.get-entries m p.0 ∙ k.0, k.1)
