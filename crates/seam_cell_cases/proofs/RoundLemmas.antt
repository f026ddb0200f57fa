-- A round that begins for all reals, and a walk that gathers their entities.
use Rattle.std.proofs.Common.{◌≡◌, ℕ, Bool, true, false, cond, ◌&&◌, T, map, List, [], ◌∷◌, refl, ap, ◌∙◌}
use Rattle.std.specs.List.{AllByRecursion, filter}
use Rattle.std.specs.List.Sorted.{IsStrictlySortedBy}
use Rattle.std.specs.Ordering.{nat_cmp, is_lt}
use Rattle.std.specs.declared.cmp.Ordering.{Ordering}
use Rattle.std.specs.declared.cmp.Ordering.TheVariants.{Less, Equal, Greater}
use Rattle.std.specs.FinMap as table
use Rattle.std.specs.FinMap.Entries.{is_sorted, below_all}
use Rattle.seam_table.proofs.Changed.{entries_changed}
use Rattle.seam_node_steps.specs.Maps.{Map, number_of, with_value, each_value}
use Rattle.seam_cell_parts.specs.Kept.{marked}

-- ---- each value of a map

module _ {X : Type 0} (f : X → X) (test : ℕ × X → Bool) (alike : (p : ℕ × X) → test (with_value f p) ≡ test p) where
  passing : (es : List (ℕ × X)) → map number_of (filter test (map (with_value f) es)) ≡ map number_of (filter test es)
  passing [] = refl
  passing (p ∷ ps) =
      ap (λ b. map number_of (cond b (with_value f p ∷ filter test (map (with_value f) ps)) (filter test (map (with_value f) ps))))
      (alike p)
      ∙ by (test p) (passing ps)
    where
      by : (b : Bool) → map number_of (filter test (map (with_value f) ps)) ≡ map number_of (filter test ps) →
          map number_of (cond b (with_value f p ∷ filter test (map (with_value f) ps)) (filter test (map (with_value f) ps)))
          ≡ map number_of (cond b (p ∷ filter test ps) (filter test ps))
      by true same = ap (λ ns. p.0 ∷ ns) same
      by false same = same

  -- a change that the test does not see leaves the marks
  pub marks_stay : (m : Map X) → marked test (each_value f m) ≡ marked test m
  marks_stay m = ap (λ es. map number_of (filter test es)) (entries_changed f m) ∙ passing (table.entries m)

-- ---- the entities of all

first : (a b : Bool) → T (a && b) → T a
first true b p = tt
first false b p = p

second : (a b : Bool) → T (a && b) → T b
second true b p = p
second false b p = absurd p

less : (o : Ordering) → T (is_lt o) → o ≡ Less
less Less p = refl
less Equal p = absurd p
less Greater p = absurd p

module _ {X : Type 0} where
  all_above : (q : ℕ) (es : List (ℕ × X)) → T (below_all nat_cmp q es) → AllByRecursion (λ y. nat_cmp q y ≡ Less) (map number_of es)
  all_above q [] h = tt
  all_above q (p ∷ es) h = (less _ (first _ _ h), all_above q es (second _ _ h))

  pub keys_rise : (es : List (ℕ × X)) → T (is_sorted nat_cmp es) → IsStrictlySortedBy nat_cmp (map number_of es)
  unfolding IsStrictlySortedBy
  keys_rise [] h = tt
  keys_rise (p ∷ es) h = (all_above p.0 es (first _ _ h), keys_rise es (second _ _ h))
