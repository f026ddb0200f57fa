-- What a finite map has where each value was changed.
use Rattle.std.proofs.Common.{◌≡◌, ℕ, Bool, true, false, cond, ◌&&◌, T, List, [], ◌∷◌, Option, Some, option_map, map as each, refl, sym, ap}
use Rattle.std.proofs.Common.{subst, ◌∙◌}
use Rattle.std.specs.Ordering.{nat_cmp, eq_by_cmp, is_lt}
use Rattle.std.specs.Cmp.{nat_cmp_total}
use Rattle.std.specs.FinMap as map
use Rattle.std.specs.FinMap.Entries.{is_sorted, below_all}

module _ {X Y : Type 0} (f : X → Y) where
  abbrev pub changed : List (ℕ × X) → List (ℕ × Y)
  changed = each (λ p. (p.0, f p.1))

  abbrev pub with_changed : map.FinMap nat_cmp X → map.FinMap nat_cmp Y
  with_changed m = map.from_entries (changed (map.entries m))

  at_head : (b : Bool) (x : X) (o : Option X) → cond b (Some (f x)) (option_map f o) ≡ option_map f (cond b (Some x) o)
  at_head true x o = refl
  at_head false x o = refl

  find_changed : (q : ℕ) (es : List (ℕ × X)) → map.find nat_cmp q (changed es) ≡ option_map f (map.find nat_cmp q es)
  find_changed q [] = refl
  find_changed q (p ∷ ps) =
      ap (cond (eq_by_cmp nat_cmp q p.0) (Some (f p.1))) (find_changed q ps)
      ∙ at_head (eq_by_cmp nat_cmp q p.0) p.1 (map.find nat_cmp q ps)

  -- the value of each number is the changed one
  pub got_changed : (m : map.FinMap nat_cmp X) (q : ℕ) → map.get (with_changed m) q ≡ option_map f (map.get m q)
  got_changed m q =
      map.get-from_entries nat_cmp_total (changed (map.entries m)) q
      ∙ (find_changed q (map.entries m) ∙ ap (option_map f) (sym (map.get-entries m q)))

  below_changed : (k : ℕ) (es : List (ℕ × X)) → below_all nat_cmp k (changed es) ≡ below_all nat_cmp k es
  below_changed k [] = refl
  below_changed k (p ∷ ps) = ap (λ b. is_lt (nat_cmp k p.0) && b) (below_changed k ps)

  sorted_changed : (es : List (ℕ × X)) → is_sorted nat_cmp (changed es) ≡ is_sorted nat_cmp es
  sorted_changed [] = refl
  sorted_changed (p ∷ ps) = λ i. below_changed p.0 ps i && sorted_changed ps i

  -- and the entries are the changed ones
  pub entries_changed : (m : map.FinMap nat_cmp X) → map.entries (with_changed m) ≡ changed (map.entries m)
  entries_changed m =
      let es = changed (map.entries m) in
      let sorted = subst T (sym (sorted_changed (map.entries m))) (map.entries_sorted m) in
      let same : with_changed m ≡ map.from_sorted es =
      map.same_map nat_cmp_total map.nat_cmp-IsAntisymmetric _ _ (λ q.
      map.get-from_entries nat_cmp_total es q ∙ sym (map.get-from_sorted nat_cmp es q sorted)) in
      ap map.entries same ∙ map.entries-from_sorted nat_cmp es sorted
