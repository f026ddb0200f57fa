-- What a cell knows of an entity: its real, or its copy.
use Rattle.std.proofs.Common.{◌≡◌, ℕ, Bool, true, false, cond, not, eqb, T, List, [], ◌∷◌, map, find, Option, None, Some}
use Rattle.std.proofs.Common.{refl, sym, ap, ◌∙◌, arith}
use Rattle.std.specs.Prelude.{option_map, nat_eq}
use Rattle.std.specs.List.{AllByRecursion}
use Rattle.std.specs.List.Sorted.{IsStrictlySortedBy}
use Rattle.std.specs.Ordering.{nat_cmp, eq_by_cmp, is_lt}
use Rattle.std.specs.declared.cmp.Ordering.{Ordering}
use Rattle.std.specs.declared.cmp.Ordering.TheVariants.{Less, Equal, Greater}
use Rattle.std.specs.Cmp.{nat_cmp_total}
use Rattle.std.specs.FinMap as table
use Rattle.std.specs.FinMap.Entries.{is_sorted, below_all}
use Rattle.std.proofs.lemmas.Bool.Decides.{nat_tests}
use Rattle.seam_node_steps.specs.Prelude.{Ghost, copy_in, with_copy, copied, GhostCopy, Map, Known, seen_as, known_of, shown_of_known}
use Rattle.seam_node_steps.specs.Prelude.{other_of_real, other_of_copy, CellView, known_real, known_copy, known_in, known_to, is_another}
use Rattle.seam_node_steps.specs.Prelude.{is_of_another}
use Rattle.seam_node_steps.proofs.Sorted.{tied_same, none_below, passing, find_filter, sorted_filter, find_mapped, find_append}
use Rattle.seam_node_steps.proofs.Sorted.{find_entries, both, first, second}
pub use Rattle.seam_node_steps.specs.Knowing.{or_else, known_by, known_at, unless_self}

-- ---- the copies of a book

module _ {P : Type 0} where
  below_with : (q x : ℕ) (c : Option P) (es : List (ℕ × P)) → T (is_lt (nat_cmp q x)) → T (below_all nat_cmp q es) →
      T (below_all nat_cmp q (with_copy x c es))
  below_with q x None es lt rest = rest
  below_with q x (Some p) es lt rest = both _ _ lt rest

  all_below : (q : ℕ) (gs : List (ℕ × Ghost P)) → T (below_all nat_cmp q gs) → T (below_all nat_cmp q (copied gs))
  all_below q [] h = tt
  all_below q (g ∷ gs) h = below_with q g.0 g.1.copy (copied gs) (first _ _ h) (all_below q gs (second _ _ h))

  copied_by : (q : ℕ) (g : ℕ × Ghost P) (es : List (ℕ × P)) (o : Option (Ghost P)) (c : Option P) (t : Bool) → eq_by_cmp nat_cmp q g.0 ≡ t →
      g.1.copy ≡ c → T (below_all nat_cmp g.0 es) → table.find nat_cmp q es ≡ copy_in o →
      table.find nat_cmp q (with_copy g.0 c es) ≡ copy_in (cond t (Some g.1) o)
  copied_by q g es o None true tied is below rest =
      ap (λ k. table.find nat_cmp k es) (tied_same q g.0 tied) ∙ none_below g.0 es below ∙ sym is
  copied_by q g es o (Some p) true tied is below rest = ap (λ b. cond b (Some p) (table.find nat_cmp q es)) tied ∙ sym is
  copied_by q g es o None false tied is below rest = rest
  copied_by q g es o (Some p) false tied is below rest = ap (λ b. cond b (Some p) (table.find nat_cmp q es)) tied ∙ rest

  pub find_copied : (q : ℕ) (gs : List (ℕ × Ghost P)) → T (is_sorted nat_cmp gs) →
      table.find nat_cmp q (copied gs) ≡ copy_in (table.find nat_cmp q gs)
  find_copied q [] h = refl
  find_copied q (g ∷ gs) h =
      copied_by q g (copied gs) (table.find nat_cmp q gs) g.1.copy (eq_by_cmp nat_cmp q g.0) refl refl
      (all_below g.0 gs (first _ _ h)) (find_copied q gs (second _ _ h))

copies_with : {P : Type 0} (x : ℕ) (c : Option P) (es : List (ℕ × P)) → T (below_all nat_cmp x es) → T (is_sorted nat_cmp es) →
    T (is_sorted nat_cmp (with_copy x c es))
copies_with x None es below rest = rest
copies_with x (Some p) es below rest = both _ _ below rest

pub copies_rise : {P : Type 0} (gs : List (ℕ × Ghost P)) → T (is_sorted nat_cmp gs) → T (is_sorted nat_cmp (copied gs))
copies_rise [] h = tt
copies_rise (g ∷ gs) h =
    copies_with g.0 g.1.copy (copied gs) (all_below g.0 gs (first _ _ h)) (copies_rise gs (second _ _ h))

-- ---- what a cell knows

pub known_is : (c : CellView) (x : ℕ) → table.find nat_cmp x (table.entries (table.from_entries {R = nat_cmp} (known_in c))) ≡ known_at c x
known_is c x =
    let reals = table.entries c.reals in
    let copies = copied (table.entries c.ghosts) in
    find_entries (known_in c) x
    ∙ find_append x (map (known_real c.here) reals) (map (known_copy c.here) copies)
    ∙ ap (λ o. or_else o (table.find nat_cmp x (map (known_copy c.here) copies)))
    (find_mapped (λ y. other_of_real c.here) x reals ∙ ap (option_map (other_of_real c.here)) (sym (table.get-entries c.reals x)))
    ∙ ap (λ o. or_else (option_map (other_of_real c.here) (table.get c.reals x)) o)
    (find_mapped (λ y. other_of_copy c.here) x copies
    ∙ ap (option_map (other_of_copy c.here)) (find_copied x (table.entries c.ghosts) (table.entries_sorted c.ghosts)
    ∙ ap copy_in (sym (table.get-entries c.ghosts x))))

pub passing_others : (e x : ℕ) (o : Option GhostCopy) → passing (is_of_another e) x o ≡ unless_self e x o
passing_others e x None = by (is_another e x)
  where
    by : (b : Bool) → None ≡ cond {A = Option GhostCopy} b None None
    by true = refl
    by false = refl
passing_others e x (Some c) = refl

pub known_rises : (c : CellView) (e : ℕ) → T (is_sorted nat_cmp (known_to c e))
known_rises c e = sorted_filter (is_of_another e) _ (table.entries_sorted (table.from_entries {R = nat_cmp} (known_in c)))

pub known_to_is : (c : CellView) (e x : ℕ) → table.find nat_cmp x (known_to c e) ≡ unless_self e x (known_at c x)
known_to_is c e x =
    find_filter (is_of_another e) x _ (table.entries_sorted (table.from_entries {R = nat_cmp} (known_in c)))
    ∙ ap (passing (is_of_another e) x) (known_is c x)
    ∙ passing_others e x (known_at c x)

-- ---- what is known of an entity, as looks ask for it

same_test : (a b : ℕ) → nat_eq a b ≡ eq_by_cmp nat_cmp b a
same_test a b = grind (arith, nat_tests)

found_by : (k : Known) (s : Option Known) (o : Option GhostCopy) (t : Bool) → option_map shown_of_known s ≡ o →
    option_map shown_of_known (cond t (Some k) s) ≡ cond t (Some k.1) o
found_by k s o true h = refl
found_by k s o false h = h

pub known_found : (x : ℕ) (es : List Known) → known_of x es ≡ table.find nat_cmp x es
known_found x [] = refl
known_found x (k ∷ es) =
    found_by k _ (table.find nat_cmp x es) (nat_eq k.0 x) (known_found x es)
    ∙ ap (λ b. cond b (Some k.1) (table.find nat_cmp x es)) (same_test k.0 x)

pub known_of_others : (c : CellView) (e x : ℕ) → known_of x (known_to c e) ≡ unless_self e x (known_at c x)
known_of_others c e x = known_found x (known_to c e) ∙ known_to_is c e x

-- ---- and in rising number

rising_above : (q : ℕ) (es : List Known) → T (below_all nat_cmp q es) →
    AllByRecursion (λ y. nat_cmp q y ≡ Less) (map (λ s. s.entity) (map seen_as es))
rising_above q [] h = tt
rising_above q (k ∷ es) h = (less (nat_cmp q k.0) (first _ _ h), rising_above q es (second _ _ h))
  where
    less : (o : Ordering) → T (is_lt o) → o ≡ Less
    less Less p = refl
    less Equal p = absurd p
    less Greater p = absurd p

pub rising : (es : List Known) → T (is_sorted nat_cmp es) → IsStrictlySortedBy nat_cmp (map (λ s. s.entity) (map seen_as es))
unfolding IsStrictlySortedBy
rising [] h = tt
rising (k ∷ es) h = (rising_above k.0 es (first _ _ h), rising es (second _ _ h))

pub known_in_order : (c : CellView) (e : ℕ) → IsStrictlySortedBy nat_cmp (map (λ s. s.entity) (map seen_as (known_to c e)))
known_in_order c e = rising (known_to c e) (known_rises c e)

-- ---- the own real is none of what is known

pub same_found : (es fs : List Known) → T (is_sorted nat_cmp es) → T (is_sorted nat_cmp fs) →
    ((q : ℕ) → table.find nat_cmp q es ≡ table.find nat_cmp q fs) → es ≡ fs
same_found es fs he hf same =
    let m : Map GhostCopy = table.from_sorted es in
    let n : Map GhostCopy = table.from_sorted fs in
    let maps : m ≡ n = table.same_map nat_cmp_total table.nat_cmp-IsAntisymmetric m n
    (λ q. table.get-from_sorted nat_cmp es q he ∙ (same q ∙ sym (table.get-from_sorted nat_cmp fs q hf))) in
    sym (table.entries-from_sorted nat_cmp es he) ∙ (ap table.entries maps ∙ table.entries-from_sorted nat_cmp fs hf)

pub known_without_own : (c : CellView) (e : ℕ) → known_to (record c { reals = table.remove c.reals e }) e ≡ known_to c e
known_without_own c e =
    let d : CellView = record c { reals = table.remove c.reals e } in
    same_found (known_to d e) (known_to c e) (known_rises d e) (known_rises c e)
    (λ q. known_to_is d e q ∙ (alike q (eqb q e) refl ∙ sym (known_to_is c e q)))
  where
    apart : (q : ℕ) → eqb q e ≡ false → eq_by_cmp nat_cmp q e ≡ false
    apart q not = grind (arith, nat_tests, not)

    alike : (q : ℕ) (b : Bool) → eqb q e ≡ b →
        cond (not (eqb q e)) (known_by c.here (table.get (table.remove c.reals e) q) (copy_in (table.get c.ghosts q))) None
        ≡ cond (not (eqb q e)) (known_by c.here (table.get c.reals q) (copy_in (table.get c.ghosts q))) None
    alike q true is =
        ap (λ b. cond (not b) (known_by c.here (table.get (table.remove c.reals e) q) (copy_in (table.get c.ghosts q))) None) is
        ∙ sym (ap (λ b. cond (not b) (known_by c.here (table.get c.reals q) (copy_in (table.get c.ghosts q))) None) is)
    alike q false is = ap (λ o. cond (not (eqb q e)) (known_by c.here o (copy_in (table.get c.ghosts q))) None)
        (table.get-remove nat_cmp_total c.reals e q ∙ ap (λ b. cond b None (table.get c.reals q)) (apart q is))
