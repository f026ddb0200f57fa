-- The versions shown, as the map of the pairs that are kept of them: of those in view, and of those that left.
use Rattle.std.proofs.Common.{◌≡◌, ℕ, Bool, true, false, cond, ◌||◌, eqb, List, [], ◌∷◌, ◌++◌, None, Some, refl, sym, ap, subst, ◌∙◌}
use Rattle.std.proofs.Common.{length, arith}
use Rattle.std.specs.Ordering.{nat_cmp}
use Rattle.std.specs.Cmp.{nat_cmp_total, unsigned_tied}
use Rattle.std.specs.Map.{keys_of, lookup}
use Rattle.std.specs.Option.{option_or}
use Rattle.std.specs.List.{IsDistinct, list_any}
use Rattle.std.specs.List.Sorted.{IsStrictlySortedBy}
use Rattle.std.proofs.lemmas.Map.Keys.{IsDistinct-from_sorted, IsDistinct-head, IsDistinct-tail}
use Rattle.std.specs.FinMap as versions
use Rattle.seam_view.specs.Replica.{AreShown, IsView}
use Rattle.seam_view.proofs.Kept.{get_by_shown, others_shown}
use Rattle.seam_view.proofs.Numbers.{number_is, same_again}

found_by_number : (q : ℕ) (es : List (ℕ × ℕ)) → versions.find nat_cmp q es ≡ lookup (eqb q) es
found_by_number q [] = refl
found_by_number q (p ∷ es) = λ i. cond (unsigned_tied q p.0 i) (Some p.1) (found_by_number q es i)

-- what a look-up among the pairs finds is the version that was shown
pub shown_of_lookup : (es : List (ℕ × ℕ)) (q : ℕ) → lookup (eqb q) es ≡ versions.get (versions.from_entries {R = nat_cmp} es) q
shown_of_lookup es q = sym (versions.get-from_entries nat_cmp_total es q ∙ found_by_number q es)

-- those in view are asked first
pub sought : (q : ℕ) (view left : List (ℕ × ℕ)) →
    lookup (eqb q) (view ++ left) ≡ option_or (lookup (eqb q) view) (lookup (eqb q) left)
sought q [] left = refl
sought q (p ∷ view) left =
    elim (eqb q p.0) as (λ b. cond b (Some p.1) (lookup (eqb q) (view ++ left))
    ≡ option_or (cond b (Some p.1) (lookup (eqb q) view)) (lookup (eqb q) left)) [
      | true ↦ refl
      | false ↦ sought q view left
    ]

not_by : (q : ℕ) (b : Bool) (p : ℕ × ℕ) (view : List (ℕ × ℕ)) → (b || list_any (λ p. eqb q p.0) view) ≡ false →
    (list_any (λ p. eqb q p.0) view ≡ false → lookup (eqb q) view ≡ None) → cond b (Some p.1) (lookup (eqb q) view) ≡ None
not_by q true p view h rest = cc
not_by q false p view h rest = rest h

-- one that is not in view has no version there
pub not_in_view : (q : ℕ) (view : List (ℕ × ℕ)) → list_any (λ p. eqb q p.0) view ≡ false → lookup (eqb q) view ≡ None
not_in_view q [] h = refl
not_in_view q (p ∷ view) h = not_by q (eqb q p.0) p view h (not_in_view q view)

pub none_when_empty : (es : List (ℕ × ℕ)) → length es ≡ 0 → es ≡ []
none_when_empty [] h = refl
none_when_empty (p ∷ es) h = absurd (omega (arith, h))

-- pairs among which each look-up finds the same show the same
pub same_shown : (old new : List (ℕ × ℕ)) → ((q : ℕ) → lookup (eqb q) new ≡ lookup (eqb q) old) →
    versions.from_entries {R = nat_cmp} new ≡ versions.from_entries old
same_shown old new found =
    versions.same_map nat_cmp_total versions.nat_cmp-IsAntisymmetric _ _ (λ q.
    sym (shown_of_lookup new q) ∙ (found q ∙ shown_of_lookup old q))

-- pairs among which each look-up finds what it found, but for one entity, have that one's version in place of the former one
shown_of_insert : (old new : List (ℕ × ℕ)) (e v : ℕ) →
    ((q : ℕ) → lookup (eqb q) new ≡ cond (eqb e q) (Some v) (lookup (eqb q) old)) →
    versions.from_entries {R = nat_cmp} new ≡ versions.insert (versions.from_entries old) e v
shown_of_insert old new e v found =
    versions.same_map nat_cmp_total versions.nat_cmp-IsAntisymmetric _ _ (λ q.
    sym (shown_of_lookup new q) ∙ (found q ∙ (ap (cond (eqb e q) (Some v)) (shown_of_lookup old q)
    ∙ sym (get_by_shown (versions.from_entries old) e v q (eqb e q) refl))))

-- ---- what a look changes

module _ (es new ls : List (ℕ × ℕ)) (e v : ℕ) where
  entered_by : (q : ℕ) (b : Bool) → lookup (eqb q) new ≡ cond b (Some v) (lookup (eqb q) es) →
      option_or (lookup (eqb q) new) (lookup (eqb q) ls) ≡ cond b (Some v) (option_or (lookup (eqb q) es) (lookup (eqb q) ls))
  entered_by q true h = ap (λ o. option_or o (lookup (eqb q) ls)) h
  entered_by q false h = ap (λ o. option_or o (lookup (eqb q) ls)) h

  -- the entity is in view at this version, and of the others nothing is changed
  pub shown_when_entered : ((q : ℕ) → lookup (eqb q) new ≡ cond (eqb e q) (Some v) (lookup (eqb q) es)) →
      versions.from_entries {R = nat_cmp} (new ++ ls) ≡ versions.insert (versions.from_entries (es ++ ls)) e v
  shown_when_entered here =
      shown_of_insert (es ++ ls) (new ++ ls) e v (λ q. sought q new ls
      ∙ (entered_by q (eqb e q) (here q) ∙ ap (cond (eqb e q) (Some v)) (sym (sought q es ls))))

-- ---- pairs that are given

given_by : (q : ℕ) (b : Bool) (p : ℕ × ℕ) (view shown : List (ℕ × ℕ)) → eqb q p.0 ≡ b →
    versions.get (versions.from_entries {R = nat_cmp} shown) p.0 ≡ Some p.1 →
    option_or (lookup (eqb q) view) (lookup (eqb q) shown) ≡ lookup (eqb q) shown →
    option_or (cond b (Some p.1) (lookup (eqb q) view)) (lookup (eqb q) shown) ≡ lookup (eqb q) shown
given_by q true p view shown t h rest =
    sym (shown_of_lookup shown q ∙ (ap (versions.get (versions.from_entries shown)) (number_is q p.0 t) ∙ h))
given_by q false p view shown t h rest = rest

shown_given : (q : ℕ) (view shown : List (ℕ × ℕ)) → AreShown (versions.from_entries shown) view →
    option_or (lookup (eqb q) view) (lookup (eqb q) shown) ≡ lookup (eqb q) shown
shown_given q [] shown h = refl
shown_given q (p ∷ view) shown h = given_by q (eqb q p.0) p view shown refl h.0 (shown_given q view shown h.1)

-- what was shown is that, with what is in view of it
pub shown_of_lists : (view shown : List (ℕ × ℕ)) → AreShown (versions.from_entries shown) view →
    versions.from_entries {R = nat_cmp} (view ++ shown) ≡ versions.from_entries shown
shown_of_lists view shown are = same_shown shown (view ++ shown) (λ q. sought q view shown ∙ shown_given q view shown are)

-- ---- a view

each_shown : (es ls : List (ℕ × ℕ)) → IsDistinct eqb (keys_of es) → AreShown (versions.from_entries (es ++ ls)) es
each_shown [] ls u = tt
each_shown (p ∷ es) ls u = (
  get_by_shown (versions.from_entries (es ++ ls)) p.0 p.1 p.0 true (same_again p.0),
  others_shown (versions.from_entries (es ++ ls)) p.0 p.1 es (IsDistinct-head eqb p.0 (keys_of es) u)
      (each_shown es ls (IsDistinct-tail eqb p.0 (keys_of es) u)),
)

-- entities that are each in view once are a view, whatever left
pub view_of_lists : (radius hysteresis : ℕ) (es ls : List (ℕ × ℕ)) → IsDistinct eqb (keys_of es) →
    IsView (record { radius = radius; hysteresis = hysteresis; entries = es; shown = versions.from_entries (es ++ ls) })
view_of_lists radius hysteresis es ls u = record { once = u; shown = each_shown es ls u }

-- entities in rising number are each there once
pub once_when_rising : (es : List ℕ) → IsStrictlySortedBy nat_cmp es → IsDistinct eqb es
once_when_rising es rising = subst (λ eq. IsDistinct eq es) (λ i x y. unsigned_tied x y i) (IsDistinct-from_sorted nat_cmp es rising)
