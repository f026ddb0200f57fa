-- The rows of a world's flat table, by entity.
use Rattle.seam_law_clients.proofs.Prelude.{◌≡◌, ℕ, zero, suc, ◌⊎◌, Bool, true, false, cond, not, eqb, T, List, [], ◌∷◌, map, find, Option}
use Rattle.seam_law_clients.proofs.Prelude.{None, Some, refl, sym, ap, ◌∙◌, arith, inl, inr, option_map, slice_get, AllByRecursion, filter}
use Rattle.seam_law_clients.proofs.Prelude.{flat_map, filter_map, nat_cmp, eq_by_cmp, is_sorted, nat_tests, Shown, Set, Enter, RealView}
use Rattle.seam_law_clients.proofs.Prelude.{CellView, is_another, is_of_another, Known, seen_as, known_of, shown_of_known, NodeView, World}
use Rattle.seam_law_clients.proofs.Prelude.{Cell, Base, slot_at, has_of, has_none, real_in, row_of_real, rows_at, row_in, rows_of, Look}
use Rattle.seam_law_clients.proofs.Prelude.{Row, row_of, rows_but, seen, passing, find_filter, sorted_filter, each_found, or_else}
use Rattle.seam_law_clients.proofs.Prelude.{find_mapped, sorted_mapped, find_append, find_entries, unless_self, passing_others}
use Rattle.std.specs.FinMap as table
use Rattle.seam_view.specs.declared.Look.TheVariants as look
use Rattle.seam_node_steps.specs.CellLooks as known
use Rattle.seam_rule_clients.specs.Looks as replica
use Rattle.seam_law_clients.proofs.Near.{lines_agree}

-- ---- where a row is from

module _ (x : ℕ) where
  abbrev pub found_in : List NodeView → Option Row
  found_in ns = table.find nat_cmp x (flat_map rows_at ns)

  -- the row is that of a real of the entity in one of the nodes
  pub record IsRowIn (ns : List NodeView) (row : Row) : Type 0 where
    pub node : ℕ
    pub cell : CellView
    pub real : RealView
    pub at : slice_get ns node ≡ Some (Cell cell)
    pub here : table.get cell.reals x ≡ Some real
    pub is : row ≡ row_of_real cell.here (x, real)

  abbrev Found : List NodeView → Type 0
  Found ns = (row : Row) × (found_in ns ≡ Some row) × IsRowIn ns row

  abbrev pub real_among : List NodeView → ℕ → Option RealView
  real_among ns k = real_in (slot_at (has_of x) has_none (slice_get ns k))

  abbrev Missing : List NodeView → Type 0
  Missing ns = (found_in ns ≡ None) × ((k : ℕ) → real_among ns k ≡ None)

  row_at_cell : (c : CellView) → table.find nat_cmp x (rows_at (Cell c)) ≡ option_map (λ r. row_of_real c.here (x, r)) (table.get c.reals x)
  row_at_cell c =
      find_mapped (λ y r. row_of_real c.here (y, r)) x (table.entries c.reals)
      ∙ ap (option_map (λ r. row_of_real c.here (x, r))) (sym (table.get-entries c.reals x))

  more : (n : NodeView) (ns : List NodeView) → table.find nat_cmp x (rows_at n) ≡ None → real_in (has_of x n) ≡ None →
      Found ns ⊎ Missing ns → Found (n ∷ ns) ⊎ Missing (n ∷ ns)
  more n ns none away (inl f) =
      inl (
        f.0,
        find_append x (rows_at n) (flat_map rows_at ns) ∙ ap (λ o. or_else o (found_in ns)) none ∙ f.1,
        record { node = suc f.2.node; cell = f.2.cell; real = f.2.real; at = f.2.at; here = f.2.here; is = f.2.is },
      )
  more n ns none away (inr m) =
      inr (find_append x (rows_at n) (flat_map rows_at ns) ∙ ap (λ o. or_else o (found_in ns)) none ∙ m.0, each)
    where
      each : (k : ℕ) → real_among (n ∷ ns) k ≡ None
      each zero = away
      each (suc k) = m.1 k

  cell_by : (c : CellView) (ns : List NodeView) (o : Option RealView) → table.get c.reals x ≡ o →
      Found ns ⊎ Missing ns → Found (Cell c ∷ ns) ⊎ Missing (Cell c ∷ ns)
  cell_by c ns (Some r) at rest =
      inl (
        row_of_real c.here (x, r),
        find_append x (rows_at (Cell c)) (flat_map rows_at ns)
            ∙ ap (λ o. or_else o (found_in ns)) (row_at_cell c ∙ ap (option_map (λ r. row_of_real c.here (x, r))) at),
        record { node = 0; cell = c; real = r; at = refl; here = at; is = refl },
      )
  cell_by c ns None at rest = more (Cell c) ns (row_at_cell c ∙ ap (option_map (λ r. row_of_real c.here (x, r))) at) at rest

  pub searched : (ns : List NodeView) → Found ns ⊎ Missing ns
  searched [] = inr (refl, λ k. refl)
  searched (Cell c ∷ ns) = cell_by c ns (table.get c.reals x) refl (searched ns)
  searched (Base b ∷ ns) = more (Base b) ns refl refl (searched ns)

-- ---- the table as what is known

abbrev pub row_known : ℕ × Row → Known
row_known p = (p.0, p.1.other)

-- each row is of the entity under whose number it is
abbrev AreOwn : List (ℕ × Row) → Type 0
AreOwn es = AllByRecursion (λ p. p.1.entity ≡ p.0) es

abbrev is_other : ℕ → ℕ × Row → Bool
is_other e p = is_another e p.0

module _ (e : ℕ) where
  but_by : (p : ℕ × Row) (es : List (ℕ × Row)) (b : Bool) → rows_but e (map row_in es) ≡ map row_in (filter (is_other e) es) →
      cond b (p.1 ∷ rows_but e (map row_in es)) (rows_but e (map row_in es))
      ≡ map row_in (cond b (p ∷ filter (is_other e) es) (filter (is_other e) es))
  but_by p es true h = ap (λ l. p.1 ∷ l) h
  but_by p es false h = h

  but_is : (es : List (ℕ × Row)) → AreOwn es → rows_but e (map row_in es) ≡ map row_in (filter (is_other e) es)
  but_is [] own = refl
  but_is (p ∷ es) own =
      ap (λ n. cond (not (eqb n e)) (p.1 ∷ rows_but e (map row_in es)) (rows_but e (map row_in es))) own.0
      ∙ but_by p es (is_another e p.0) (but_is es own.1)

  known_by : (p : ℕ × Row) (es : List (ℕ × Row)) (b : Bool) → filter (is_of_another e) (map row_known es) ≡ map row_known
      (filter (is_other e) es) → cond b (row_known p ∷ filter (is_of_another e) (map row_known es))
      (filter (is_of_another e) (map row_known es)) ≡ map row_known (cond b (p ∷ filter (is_other e) es) (filter (is_other e) es))
  known_by p es true h = ap (λ l. row_known p ∷ l) h
  known_by p es false h = h

  known_others : (es : List (ℕ × Row)) → filter (is_of_another e) (map row_known es) ≡ map row_known (filter (is_other e) es)
  known_others [] = refl
  known_others (p ∷ es) = known_by p es (is_another e p.0) (known_others es)

  own_by : (p : ℕ × Row) (es : List (ℕ × Row)) (b : Bool) → p.1.entity ≡ p.0 → AreOwn es → AreOwn (cond b (p ∷ es) es)
  own_by p es true own rest = (own, rest)
  own_by p es false own rest = rest

  own_others : (es : List (ℕ × Row)) → AreOwn es → AreOwn (filter (is_other e) es)
  own_others [] own = tt
  own_others (p ∷ es) own = own_by p (filter (is_other e) es) (is_another e p.0) own.0 (own_others es own.1)

seen_same : (es : List (ℕ × Row)) → AreOwn es → map seen (map row_in es) ≡ map seen_as (map row_known es)
seen_same [] own = refl
seen_same (p ∷ es) own = λ i. record { entity = own.0 i; version = p.1.other.version; pos = p.1.other.state.pos } ∷ seen_same es own.1 i

tied : (a x : ℕ) → eqb a x ≡ eq_by_cmp nat_cmp x a
tied a x = grind (arith, nat_tests)

shown_by : (x : ℕ) (es : List (ℕ × Row)) → AreOwn es → option_map (λ r. r.other) (row_of (map row_in es) x) ≡ known_of x (map row_known es)
shown_by x [] own = refl
shown_by x (p ∷ es) own =
    ap (λ n. option_map (λ r. r.other) (cond (eqb n x) (Some p.1) (row_of (map row_in es) x))) own.0
    ∙ by (eqb p.0 x) (shown_by x es own.1)
  where
    by : (t : Bool) → option_map (λ r. r.other) (row_of (map row_in es) x) ≡ known_of x (map row_known es) →
        option_map (λ r. r.other) (cond t (Some p.1) (row_of (map row_in es) x))
        ≡ option_map shown_of_known (cond t (Some (row_known p)) (find (known.is_of x) (map row_known es)))
    by true h = refl
    by false h = h

set_of : (x : ℕ) (o : Option Row) → option_map (λ r. Set x r.other) o ≡ option_map (Set x) (option_map (λ r. r.other) o)
set_of x None = refl
set_of x (Some r) = refl

enter_of : (x : ℕ) (o : Option Row) → option_map (λ r. Enter x r.other) o ≡ option_map (Enter x) (option_map (λ r. r.other) o)
enter_of x None = refl
enter_of x (Some r) = refl

line_same : (es : List (ℕ × Row)) → AreOwn es → (l : Look) → replica.shown_for (map row_in es) l ≡ known.shown_for (map row_known es) l
line_same es own (look.Leave x) = refl
line_same es own (look.Set x) = set_of x (row_of (map row_in es) x) ∙ ap (option_map (Set x)) (shown_by x es own)
line_same es own (look.Enter x) = enter_of x (row_of (map row_in es) x) ∙ ap (option_map (Enter x)) (shown_by x es own)

all_same : (f g : Look → Option Shown) → ((l : Look) → f l ≡ g l) → (ls : List Look) → AllByRecursion (λ l. f l ≡ g l) ls
all_same f g h [] = tt
all_same f g h (l ∷ ls) = (h l, all_same f g h ls)

module _ (w : World) where
  abbrev entries : List (ℕ × Row)
  entries = table.entries (table.from_entries {R = nat_cmp} (flat_map rows_at w.nodes))

  rises : T (is_sorted nat_cmp entries)
  rises = table.entries_sorted (table.from_entries {R = nat_cmp} (flat_map rows_at w.nodes))

  own_of_found : (p : ℕ × Row) → table.find nat_cmp p.0 entries ≡ Some p.1 → p.1.entity ≡ p.0
  own_of_found p at = by (searched p.0 w.nodes)
    where
      by : ((row : Row) × (found_in p.0 w.nodes ≡ Some row) × IsRowIn p.0 w.nodes row)
          ⊎ ((found_in p.0 w.nodes ≡ None) × ((k : ℕ) → real_among p.0 w.nodes k ≡ None)) → p.1.entity ≡ p.0
      by (inl f) =
          let same : p.1 ≡ f.0 = let z = sym at ∙ find_entries (flat_map rows_at w.nodes) p.0 ∙ f.1 in cc in
          ap (λ r. r.entity) (same ∙ f.2.is)
      by (inr m) = absurd (let z = sym at ∙ find_entries (flat_map rows_at w.nodes) p.0 ∙ m.0 in cc)

  own_each : (es : List (ℕ × Row)) → AllByRecursion (λ p. table.find nat_cmp p.0 entries ≡ Some p.1) es → AreOwn es
  own_each [] h = tt
  own_each (p ∷ es) h = (own_of_found p h.0, own_each es h.1)

  are_own : AreOwn entries
  are_own = own_each entries (each_found entries rises)

  row_found_by : (x : ℕ) (es : List (ℕ × Row)) → AreOwn es → row_of (map row_in es) x ≡ table.find nat_cmp x es
  row_found_by x [] own = refl
  row_found_by x (p ∷ es) own =
      ap (λ n. cond (eqb n x) (Some p.1) (row_of (map row_in es) x)) own.0
      ∙ ap (λ b. cond b (Some p.1) (row_of (map row_in es) x)) (tied p.0 x)
      ∙ ap (λ o. cond (eq_by_cmp nat_cmp x p.0) (Some p.1) o) (row_found_by x es own.1)

  -- the row of an entity
  pub row_found : (x : ℕ) → row_of (rows_of w) x ≡ found_in x w.nodes
  row_found x = row_found_by x entries are_own ∙ find_entries (flat_map rows_at w.nodes) x

  -- the rows of others than e, as what is known of them
  abbrev pub others : ℕ → List Known
  others e = filter (is_of_another e) (map row_known entries)

  pub others_rise : (e : ℕ) → T (is_sorted nat_cmp (others e))
  others_rise e = sorted_filter (is_of_another e) (map row_known entries) (sorted_mapped (λ x r. r.other) entries rises)

  pub others_found : (e x : ℕ) → table.find nat_cmp x (others e) ≡ unless_self e x (option_map (λ r. r.other) (found_in x w.nodes))
  others_found e x =
      find_filter (is_of_another e) x (map row_known entries) (sorted_mapped (λ x r. r.other) entries rises)
      ∙ ap (passing (is_of_another e) x) (find_mapped (λ x r. r.other) x entries
      ∙ ap (option_map (λ r. r.other)) (find_entries (flat_map rows_at w.nodes) x))
      ∙ passing_others e x _

  pub seen_others : (e : ℕ) → map seen (rows_but e (rows_of w)) ≡ map seen_as (others e)
  seen_others e =
      ap (map seen) (but_is e entries are_own)
      ∙ seen_same (filter (is_other e) entries) (own_others e entries are_own)
      ∙ ap (map seen_as) (sym (known_others e entries))

  pub lines_of_others : (e : ℕ) (ls : List Look) →
      filter_map (replica.shown_for (rows_but e (rows_of w))) ls ≡ filter_map (known.shown_for (others e)) ls
  lines_of_others e ls =
      let es = filter (is_other e) entries in
      lines_agree (replica.shown_for (rows_but e (rows_of w))) (known.shown_for (others e)) ls
      (all_same (replica.shown_for (rows_but e (rows_of w))) (known.shown_for (others e)) (λ l.
      ap (λ rs. replica.shown_for rs l) (but_is e entries are_own)
      ∙ line_same es (own_others e entries are_own) l
      ∙ ap (λ ks. known.shown_for ks l) (sym (known_others e entries))) ls)
