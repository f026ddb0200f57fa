-- The look list after a tick has each entity that has a witness once.
use Rattle.seam_law_calls.proofs.Prelude.{◌≡◌, ℕ, ◌+◌, Bool, true, false, cond, T, ◌&&◌, List, [], ◌∷◌, map, filter, Option, Some, refl}
use Rattle.seam_law_calls.proofs.Prelude.{sym, ap, ◌∙◌, subst, arith, inl, inr, nat_cmp, is_lt, unsigned_tied, is_sorted, below_all}
use Rattle.seam_law_calls.proofs.Prelude.{cases_eq, eq-eqb, ne_eqb, RealView, number_of, CellView, witnesses}
use Rattle.seam_law_calls.proofs.Prelude.{has_witness as entry_has_witness, times, one_more_if, looks_after_tick, Ordering, Less, Equal}
use Rattle.seam_law_calls.proofs.Prelude.{Greater, nat_tests}
use Rattle.std.specs.FinMap as table
use Rattle.std.specs.FinMap.Entries.{find as key_find}

less_apart : (e y : ℕ) → nat_cmp e y ≡ Less → y ≡ e → ⊥
less_apart e y is same = grind (arith, nat_tests, is)

module _ (e : ℕ) where
  abbrev listed : List (ℕ × RealView) → ℕ
  listed es = times e (map number_of (filter entry_has_witness es))

  -- greater numbers are others
  none_by : (x : ℕ × RealView) (xs : List (ℕ × RealView)) (o : Ordering) (b : Bool) → nat_cmp e x.0 ≡ o →
      T (is_lt o && below_all nat_cmp e xs) → (T (below_all nat_cmp e xs) → listed xs ≡ 0) →
      times e (map number_of (cond b (x ∷ filter entry_has_witness xs) (filter entry_has_witness xs))) ≡ 0
  none_by x xs Less true is h more = ap (λ c. one_more_if c (listed xs)) (ne_eqb x.0 e (less_apart e x.0 is)) ∙ more h
  none_by x xs Less false is h more = more h
  none_by x xs Equal b is h more = absurd h
  none_by x xs Greater b is h more = absurd h

  none_above : (xs : List (ℕ × RealView)) → T (below_all nat_cmp e xs) → listed xs ≡ 0
  none_above [] h = refl
  none_above (x ∷ xs) h = none_by x xs (nat_cmp e x.0) (entry_has_witness x) refl h (none_above xs)

  first : (a b : Bool) → T (a && b) → T a
  first true b p = tt
  first false b p = p

  second : (a b : Bool) → T (a && b) → T b
  second true b p = p
  second false b p = absurd p

  here_by : (x : ℕ × RealView) (xs : List (ℕ × RealView)) (b : Bool) → entry_has_witness x ≡ b → x.0 ≡ e → listed xs ≡ 0 →
      times e (map number_of (cond b (x ∷ filter entry_has_witness xs) (filter entry_has_witness xs))) ≡ looks_after_tick (Some x.1)
  here_by x xs true w is none =
      ap (λ c. one_more_if c (listed xs)) (eq-eqb x.0 e is) ∙ (ap (λ n. n + 1) none ∙ sym (ap (λ b. cond {A = ℕ} b 1 0) w))
  here_by x xs false w is none = none ∙ sym (ap (λ b. cond {A = ℕ} b 1 0) w)

  there_by : (x : ℕ × RealView) (xs : List (ℕ × RealView)) (b : Bool) → (x.0 ≡ e → ⊥) →
      times e (map number_of (cond b (x ∷ filter entry_has_witness xs) (filter entry_has_witness xs))) ≡ listed xs
  there_by x xs true n = ap (λ c. one_more_if c (listed xs)) (ne_eqb x.0 e n)
  there_by x xs false n = refl

  abbrev kept : List (ℕ × RealView) → Option RealView
  kept es = key_find nat_cmp e es

  found_here : (x : ℕ × RealView) (xs : List (ℕ × RealView)) → x.0 ≡ e → kept (x ∷ xs) ≡ Some x.1
  found_here x xs is = ap (λ b. cond b (Some x.1) (kept xs)) (unsigned_tied e x.0 ∙ eq-eqb e x.0 (sym is))

  found_there : (x : ℕ × RealView) (xs : List (ℕ × RealView)) → (x.0 ≡ e → ⊥) → kept (x ∷ xs) ≡ kept xs
  found_there x xs n = ap (λ b. cond b (Some x.1) (kept xs)) (unsigned_tied e x.0 ∙ ne_eqb e x.0 (λ q. n (sym q)))

  listed_is : (es : List (ℕ × RealView)) → T (is_sorted nat_cmp es) → listed es ≡ looks_after_tick (kept es)
  listed_is [] h = refl
  listed_is (x ∷ xs) h = elim (cases_eq x.0 e) [
    | inl is ↦
        here_by x xs (entry_has_witness x) refl is (none_above xs (subst (λ q. T (below_all nat_cmp q xs)) is (first _ _ h)))
        ∙ sym (ap looks_after_tick (found_here x xs is))
    | inr n ↦
        there_by x xs (entry_has_witness x) n ∙ (listed_is xs (second _ _ h) ∙ sym (ap looks_after_tick (found_there x xs n)))
  ]

pub ticked : (c : CellView) (e : ℕ) → times e (witnesses c) ≡ looks_after_tick (table.get c.reals e)
ticked c e =
    listed_is e (table.entries c.reals) (table.entries_sorted c.reals) ∙ sym (ap looks_after_tick (table.get-entries c.reals e))
