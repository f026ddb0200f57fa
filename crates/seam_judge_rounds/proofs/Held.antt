-- Where entities are held after a legal round, by its home lines and ghost lines.
use Rattle.std.proofs.Common.{◌≡◌, ◌<◌, ◌≤◌, ◌+◌, ℕ, zero, suc, Bool, true, false, cond, List, [], ◌∷◌, map, length, Option, Some, refl}
use Rattle.std.proofs.Common.{sym, ap, ◌∙◌, subst, arith}
use Rattle.std.proofs.Common.{IsTrue, nat_lt, nat_le, inl, inr, ◌⊎◌}
use Rattle.std.specs.Prelude.{filter, find, ◌==◌, ◌&&◌, Contains, unwrap_or}
use Rattle.std.specs.List.{All, flat_map, range_with_len}
use Rattle.std.specs.Option.{option_map}
use Rattle.std.specs.Cmp.{nat_cmp_total}
use Rattle.std.specs.FinSet as set
use Rattle.std.proofs.lemmas.Bool.Decides.{nat_tests}
use Rattle.std.proofs.lemmas.Option.{same_Some}
use Rattle.std.proofs.lemmas.List.Elements.{All-contains}
use Rattle.seam_rule_rounds.specs.Prelude.{Pos, MOST_CELLS, Division, cells_of, Distances, Place, settled, settled_all, IsPlaceAfter}
use Rattle.seam_rule_rounds.specs.Prelude.{Create, Header, live_as, tree_of, HomeLine, Lists, public_at, version_of, position_at}
use Rattle.seam_rule_rounds.specs.Prelude.{positions_past, Standing, in_first_cell, distances, place_before, HasPlace, ghost_cells}
use Rattle.seam_rule_rounds.specs.Prelude.{GhostLine, RoundData, home_line, ghost_lines}
use Rattle.seam_haunt.proofs.Chosen.{contains_chosen}
use Rattle.seam_haunt.proofs.Settling.{ghosts_settled}
use Rattle.seam_defs.specs.declared.flags.Part.TheVariants as part
use Rattle.seam_rule_lines.proofs.Lists.{contains_first, contains_later, contains_cases}
use Rattle.seam_judge_expected.proofs.ListedLemmas.{in_filter}
use Rattle.seam_judge_rounds.specs.After.{is_ghost_of, ghosts_among, place_at, place_in}
use Rattle.seam_judge_rounds.proofs.Pieces.{pieces_kept, one_piece}

-- ---- ghosts are in cells of the tree

settled_below : (d : Distances) (t : Division) (c : ℕ) (was : Place) (p : Pos) (path : List Pos) →
    IsTrue (set.contains (settled_all d t was (p ∷ path)).ghosts c) → c < cells_of t
settled_below d t c was p [] held = ((ghosts_settled d t was p c).0 held).there
settled_below d t c was p (q ∷ path) held = settled_below d t c (settled d t was p) q path held

place_below : (d : Distances) (t : Division) (c : ℕ) (was : Place) (start : Pos) (path : List Pos) (after : Place) →
    IsPlaceAfter d t was start path after → IsTrue (set.contains after.ghosts c) → c < cells_of t
place_below d t c was start path after (inl is) held =
    settled_below d t c was start path (subst (λ (p : Place). IsTrue (set.contains p.ghosts c)) is held)
place_below d t c was start [] after (inr (some, is)) held = absurd (omega (arith, some))
place_below d t c was start (p ∷ path) after (inr (some, is)) held =
    settled_below d t c was p path (subst (λ (q : Place). IsTrue (set.contains q.ghosts c)) is held)

-- a place with ghosts in cells of a tree alone has those of its ghost cells
and_false : (x : Bool) → (x && false) ≡ false
and_false true = refl
and_false false = refl

listed_ghosts : (tree : Division) (place : Place) → ((c : ℕ) → IsTrue (set.contains place.ghosts c) → c < cells_of tree) →
    set.from_list (ghost_cells tree place) ≡ place.ghosts
listed_ghosts tree place below =
    set.same_set nat_cmp_total set.nat_cmp-IsAntisymmetric (set.from_list (ghost_cells tree place)) place.ghosts
    (λ c. contains_chosen (λ (n : ℕ). set.contains place.ghosts n) 0 (cells_of tree) c ∙ by c (set.contains place.ghosts c) refl)
  where
    by : (c : ℕ) (b : Bool) → set.contains place.ghosts c ≡ b →
        ((nat_le 0 c && nat_lt c (0 + cells_of tree)) && set.contains place.ghosts c)
        ≡ set.contains place.ghosts c
    by c true is =
        let low = below c is in
        let there : (nat_le 0 c && nat_lt c (0 + cells_of tree)) ≡ true = grind (arith, nat_tests, low) in
        (λ i. there i && is i) ∙ sym is
    by c false is =
        ap (λ (x : Bool). (nat_le 0 c && nat_lt c (0 + cells_of tree)) && x) is
        ∙ and_false (nat_le 0 c && nat_lt c (0 + cells_of tree)) ∙ sym is

-- ---- the lines of an entity

-- the numbers of a range are below its end
range_below : (p : ℕ → Bool) (a n c : ℕ) → Contains (filter p (range_with_len a n)) c → c < a + n
range_below p a zero c (k, within, is) = absurd (omega (arith, within))
range_below p a (suc n) c has =
    let found = (in_filter p (range_with_len a (suc n)) c has).0 in
    in_range a (suc n) found
  where
    in_range : (a n : ℕ) → Contains (range_with_len a n) c → c < a + n
    in_range a zero (k, within, is) = absurd (omega (arith, within))
    in_range a (suc n) has = elim (contains_cases a c (range_with_len (a + 1) n) has) [
      | inl same ↦ omega (arith, same)
      | inr there ↦ let later = in_range (a + 1) n there in omega (arith, later)
    ]

module _ (h : Header) (tree : Division) (t : Standing) (few : cells_of tree ≤ MOST_CELLS) where
  abbrev pub line_at : Create → ℕ → GhostLine
  line_at c cell = record {
    entity = c.entity;
    cell = cell;
    version = public_at h c (t.orders part.Cell c.entity) (length (t.orders part.Cell c.entity));
  }

  lines_at : (c : Create) (cells : List ℕ) (l : GhostLine) → Contains (map (line_at c) cells) l → Contains cells l.cell ×
      (l.entity ≡ c.entity)
  lines_at c [] l (k, within, is) = absurd (omega (arith, within))
  lines_at c (x ∷ xs) l has = elim (contains_cases (line_at c x) l (map (line_at c) xs) has) [
    | inl same ↦ (
      subst (λ (n : ℕ). Contains (x ∷ xs) n) (ap (λ (y : GhostLine). y.cell) same) (contains_first x xs),
      ap (λ (y : GhostLine). y.entity) (sym same),
    )
    | inr there ↦ let found = lines_at c xs l there in (contains_later x l.cell xs found.0, found.1)
  ]

  tells : (e : ℕ) (c : Create) (l : GhostLine) → Contains (ghost_lines h tree t c) l → is_ghost_of e l ≡ (c.entity == e)
  tells e c l has =
      let found = lines_at c (ghost_cells tree (t.places c.entity)) l has in
      let below = range_below (λ (n : ℕ). set.contains (t.places c.entity).ghosts n) 0 (cells_of tree) l.cell found.0 in
      let low : nat_lt l.cell MOST_CELLS ≡ true = grind (arith, nat_tests, below, few) in
      (λ i. (found.1 i == e) && low i) ∙ and_same (c.entity == e)
    where
      and_same : (z : Bool) → (z && true) ≡ z
      and_same true = refl
      and_same false = refl

  cells_again : (c : Create) (cells : List ℕ) → map (λ (l : GhostLine). l.cell) (map (line_at c) cells) ≡ cells
  cells_again c [] = refl
  cells_again c (x ∷ xs) = ap (λ (ys : List ℕ). x ∷ ys) (cells_again c xs)

  pub ghosts_listed : (live : List Create) (entities : ℕ → Option Create) (c : Create) → Lists entities live → Contains live c →
      ((n : ℕ) → IsTrue (set.contains (t.places c.entity).ghosts n) → n < cells_of tree) →
      ghosts_among (flat_map (ghost_lines h tree t) live) c.entity ≡ (t.places c.entity).ghosts
  ghosts_listed live entities c listed has below =
      ap (λ (ls : List GhostLine). set.from_list (map (λ l. l.cell) ls))
      (pieces_kept (ghost_lines h tree t) (is_ghost_of c.entity) c.entity live (λ d there l. tells c.entity d l)
      ∙ one_piece (ghost_lines h tree t) c live listed.rising has)
      ∙ ap set.from_list (cells_again c (ghost_cells tree (t.places c.entity))) ∙ listed_ghosts tree (t.places c.entity) below

-- the home line of an entity is the first with its number
find_home : (h : Header) (t : Standing) (c : Create) (cs : List Create) →
    ((d : Create) → Contains cs d → d.entity ≡ c.entity → d ≡ c) → Contains cs c →
    find (λ l. l.entity == c.entity) (map (home_line h t) cs) ≡ Some (home_line h t c)
find_home h t c [] same (k, within, is) = absurd (omega (arith, within))
find_home h t c (x ∷ xs) same has =
    by (x.entity == c.entity) refl (find_home h t c xs (λ d among. same d (contains_later x d xs among))) (contains_cases x c xs has)
  where
    by : (b : Bool) → (x.entity == c.entity) ≡ b →
        (Contains xs c → find (λ l. l.entity == c.entity) (map (home_line h t) xs) ≡ Some (home_line h t c)) → (x ≡ c) ⊎ Contains xs c →
        cond b (Some (home_line h t x)) (find (λ l. l.entity == c.entity) (map (home_line h t) xs)) ≡ Some (home_line h t c)
    by true is again either =
        let entity : x.entity ≡ c.entity = grind (arith, nat_tests, is) in
        ap (λ (d : Create). Some (home_line h t d)) (same x (contains_first x xs) entity)
    by false is again (inl one) = let here : x.entity ≡ c.entity = ap (λ (y : Create). y.entity) one in
        absurd (grind (arith, nat_tests, is, here))
    by false is again (inr there) = again there

-- ---- places

module _ (h : Header) (s t : Standing) (r : RoundData) (live : List Create) (listed : Lists (live_as s.book) live)
    (few : cells_of (tree_of s.book) ≤ MOST_CELLS) (places : All (HasPlace h s t) live) (homes : r.homes ≡ map (home_line h t) live)
    (ghosts : r.ghosts ≡ flat_map (ghost_lines h (tree_of s.book) t) live)
  where
    one : (c : Create) → Contains live c → (d : Create) → Contains live d → d.entity ≡ c.entity → d ≡ c
    one c has d there entity =
        same_Some d c (sym ((listed.exact d).0 there) ∙ ap (live_as s.book) entity ∙ (listed.exact c).0 has)

    below : (c : Create) → Contains live c → (n : ℕ) → IsTrue (set.contains (t.places c.entity).ghosts n) → n < cells_of (tree_of s.book)
    below c has n held =
        place_below (distances h.settings) (tree_of s.book) n (place_before s c)
        (position_at h c (t.orders part.Cell c.entity) (version_of s.orders part.Cell c))
        (positions_past h c (t.orders part.Cell c.entity) (version_of s.orders part.Cell c)) (t.places c.entity)
        (All-contains (HasPlace h s t) live c places has) held

    -- a live entity is held where its lines show it
    pub place_shown : (c : Create) → Contains live c → place_in r c.entity ≡ t.places c.entity
    place_shown c has =
        ap (λ (o : Option HomeLine). unwrap_or (option_map (place_at r) o) in_first_cell)
        (ap (find (λ (l : HomeLine). l.entity == c.entity)) homes ∙ find_home h t c live (one c has) has)
        ∙ (λ i. record {
          home = (t.places c.entity).home;
          ghosts =
              (ap (λ (ls : List GhostLine). ghosts_among ls c.entity) ghosts
              ∙ ghosts_listed h (tree_of s.book) t few live (live_as s.book) c listed has (below c has)) i;
        })
