-- Lists in rising number: what is found at a number, also after a filter.
use Rattle.std.proofs.Common.{◌≡◌, ℕ, Bool, true, false, cond, ◌&&◌, T, List, [], ◌∷◌, ◌++◌, map, Option, None, Some}
use Rattle.std.proofs.Common.{refl, sym, ap, ◌∙◌, arith}
use Rattle.std.specs.Prelude.{option_map}
use Rattle.std.specs.List.{AllByRecursion, filter}
use Rattle.std.specs.Ordering.{nat_cmp, eq_by_cmp, is_lt, is_eq}
use Rattle.std.specs.Cmp.{nat_cmp_total, tied_itself}
use Rattle.std.specs.FinMap as table
use Rattle.std.specs.FinMap.Entries.{is_sorted, below_all}
use Rattle.std.proofs.lemmas.Bool.Decides.{nat_tests}
pub use Rattle.seam_node_steps.specs.Knowing.{or_else}

pub both : (a b : Bool) → T a → T b → T (a && b)
both true b p q = q
both false b p q = p

pub first : (a b : Bool) → T (a && b) → T a
first true b p = tt
first false b p = p

pub second : (a b : Bool) → T (a && b) → T b
second true b p = p
second false b p = absurd p

not_tied : (q k : ℕ) → T (is_lt (nat_cmp q k)) → eq_by_cmp nat_cmp q k ≡ false
not_tied q k below = grind (arith, nat_tests)

not_tied_after : (q k : ℕ) → T (is_lt (nat_cmp q k)) → eq_by_cmp nat_cmp k q ≡ false
not_tied_after q k below = grind (arith, nat_tests)

pub tied_same : (q x : ℕ) → eq_by_cmp nat_cmp q x ≡ true → q ≡ x
tied_same q x t = grind (arith, nat_tests)

-- a value that passes a test with its number
abbrev pub passing : {X : Type 0} → (ℕ × X → Bool) → ℕ → Option X → Option X
passing p q None = None
passing p q (Some x) = cond (p (q, x)) (Some x) None

module _ {X : Type 0} where
  pub none_below : (q : ℕ) (es : List (ℕ × X)) → T (below_all nat_cmp q es) → table.find nat_cmp q es ≡ None
  none_below q [] h = refl
  none_below q (x ∷ es) h =
      ap (λ b. cond b (Some x.1) (table.find nat_cmp q es)) (not_tied q x.0 (first _ _ h)) ∙ none_below q es (second _ _ h)

  module _ (p : ℕ × X → Bool) where
    below_by : (q : ℕ) (e : ℕ × X) (fs : List (ℕ × X)) (b : Bool) → T (is_lt (nat_cmp q e.0)) → T (below_all nat_cmp q fs) →
        T (below_all nat_cmp q (cond b (e ∷ fs) fs))
    below_by q e fs true lt rest = both _ _ lt rest
    below_by q e fs false lt rest = rest

    below_filter : (q : ℕ) (es : List (ℕ × X)) → T (below_all nat_cmp q es) → T (below_all nat_cmp q (filter p es))
    below_filter q [] h = tt
    below_filter q (e ∷ es) h = below_by q e (filter p es) (p e) (first _ _ h) (below_filter q es (second _ _ h))

    sorted_by : (e : ℕ × X) (fs : List (ℕ × X)) (b : Bool) → T (below_all nat_cmp e.0 fs) → T (is_sorted nat_cmp fs) →
        T (is_sorted nat_cmp (cond b (e ∷ fs) fs))
    sorted_by e fs true below rest = both _ _ below rest
    sorted_by e fs false below rest = rest

    pub sorted_filter : (es : List (ℕ × X)) → T (is_sorted nat_cmp es) → T (is_sorted nat_cmp (filter p es))
    sorted_filter [] h = tt
    sorted_filter (e ∷ es) h =
        sorted_by e (filter p es) (p e) (below_filter e.0 es (first _ _ h)) (sorted_filter es (second _ _ h))

    find_by : (q : ℕ) (e : ℕ × X) (es : List (ℕ × X)) (t b : Bool) → eq_by_cmp nat_cmp q e.0 ≡ t → p e ≡ b → T (below_all nat_cmp e.0 es) →
        table.find nat_cmp q (filter p es) ≡ passing p q (table.find nat_cmp q es) →
        table.find nat_cmp q (cond b (e ∷ filter p es) (filter p es)) ≡ passing p q (cond t (Some e.1) (table.find nat_cmp q es))
    find_by q e es true true tied is below rest =
        ap (λ c. cond c (Some e.1) (table.find nat_cmp q (filter p es))) tied
        ∙ sym (ap (λ c. cond c (Some e.1) None) (ap (λ k. p (k, e.1)) (tied_same q e.0 tied) ∙ is))
    find_by q e es true false tied is below rest =
        ap (λ k. table.find nat_cmp k (filter p es)) (tied_same q e.0 tied)
        ∙ none_below e.0 (filter p es) (below_filter e.0 es below)
        ∙ sym (ap (λ c. cond c (Some e.1) None) (ap (λ k. p (k, e.1)) (tied_same q e.0 tied) ∙ is))
    find_by q e es false true tied is below rest =
        ap (λ c. cond c (Some e.1) (table.find nat_cmp q (filter p es))) tied ∙ rest
    find_by q e es false false tied is below rest = rest

    pub find_filter : (q : ℕ) (es : List (ℕ × X)) → T (is_sorted nat_cmp es) →
        table.find nat_cmp q (filter p es) ≡ passing p q (table.find nat_cmp q es)
    find_filter q [] h = refl
    find_filter q (e ∷ es) h =
        find_by q e es (eq_by_cmp nat_cmp q e.0) (p e) refl refl (first _ _ h) (find_filter q es (second _ _ h))

  -- each entry is what is found at its number
  later : (e : ℕ × X) (es fs : List (ℕ × X)) → T (below_all nat_cmp e.0 fs) →
      AllByRecursion (λ y. table.find nat_cmp y.0 es ≡ Some y.1) fs →
      AllByRecursion (λ y. table.find nat_cmp y.0 (e ∷ es) ≡ Some y.1) fs
  later e es [] below h = tt
  later e es (y ∷ fs) below h = (
    ap (λ b. cond b (Some e.1) (table.find nat_cmp y.0 es)) (not_tied_after e.0 y.0 (first _ _ below)) ∙ h.0,
    later e es fs (second _ _ below) h.1,
  )

  pub each_found : (es : List (ℕ × X)) → T (is_sorted nat_cmp es) → AllByRecursion (λ y. table.find nat_cmp y.0 es ≡ Some y.1) es
  each_found [] h = tt
  each_found (e ∷ es) h = (
    ap (λ o. cond (is_eq o) (Some e.1) (table.find nat_cmp e.0 es)) (tied_itself nat_cmp_total e.0),
    later e es es (first _ _ h) (each_found es (second _ _ h)),
  )

-- values changed, each by its number
abbrev pub each_by : {X Y : Type 0} → (ℕ → X → Y) → ℕ × X → ℕ × Y
each_by f p = (p.0, f p.0 p.1)

module _ {X Y : Type 0} (f : ℕ → X → Y) where
  mapped_by : (q : ℕ) (e : ℕ × X) (o : Option X) (p : Option Y) (t : Bool) → eq_by_cmp nat_cmp q e.0 ≡ t → p ≡ option_map (f q) o →
      cond t (Some (f e.0 e.1)) p ≡ option_map (f q) (cond t (Some e.1) o)
  mapped_by q e o p true tied h = ap (λ k. Some (f k e.1)) (sym (tied_same q e.0 tied))
  mapped_by q e o p false tied h = h

  pub find_mapped : (q : ℕ) (es : List (ℕ × X)) → table.find nat_cmp q (map (each_by f) es) ≡ option_map (f q) (table.find nat_cmp q es)
  find_mapped q [] = refl
  find_mapped q (e ∷ es) =
      mapped_by q e (table.find nat_cmp q es) (table.find nat_cmp q (map (each_by f) es)) (eq_by_cmp nat_cmp q e.0) refl
      (find_mapped q es)

  below_mapped : (q : ℕ) (es : List (ℕ × X)) → T (below_all nat_cmp q es) → T (below_all nat_cmp q (map (each_by f) es))
  below_mapped q [] h = tt
  below_mapped q (e ∷ es) h = both _ _ (first _ _ h) (below_mapped q es (second _ _ h))

  pub sorted_mapped : (es : List (ℕ × X)) → T (is_sorted nat_cmp es) → T (is_sorted nat_cmp (map (each_by f) es))
  sorted_mapped [] h = tt
  sorted_mapped (e ∷ es) h = both _ _ (below_mapped e.0 es (first _ _ h)) (sorted_mapped es (second _ _ h))

module _ {X : Type 0} where
  appended_by : (x : X) (t : Bool) (o p q : Option X) → o ≡ or_else p q → cond t (Some x) o ≡ or_else (cond t (Some x) p) q
  appended_by x true o p q h = refl
  appended_by x false o p q h = h

  pub find_append : (q : ℕ) (es fs : List (ℕ × X)) →
      table.find nat_cmp q (es ++ fs) ≡ or_else (table.find nat_cmp q es) (table.find nat_cmp q fs)
  find_append q [] fs = refl
  find_append q (e ∷ es) fs =
      appended_by e.1 (eq_by_cmp nat_cmp q e.0) (table.find nat_cmp q (es ++ fs)) (table.find nat_cmp q es) (table.find nat_cmp q fs)
      (find_append q es fs)

-- the entries of a map made of a list
pub find_entries : {X : Type 0} (es : List (ℕ × X)) (q : ℕ) →
    table.find nat_cmp q (table.entries (table.from_entries {R = nat_cmp} es)) ≡ table.find nat_cmp q es
find_entries es q = sym (table.get-entries (table.from_entries {R = nat_cmp} es) q) ∙ table.get-from_entries nat_cmp_total es q
