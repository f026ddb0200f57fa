-- Home lines, base lines and ghost lines of a legal round are in form.
use Rattle.std.proofs.Common.{◌≡◌, ℕ, ◌<◌, ◌≤◌, Bool, true, false, List, [], ◌∷◌, length, All, Some, sym, subst}
use Rattle.std.proofs.Common.{arith, inl, inr, cond}
use Rattle.std.specs.Prelude.{nat_le}
use Rattle.std.specs.FinSet as set
use Rattle.std.specs.List.{range_with_len, list_any}
use Rattle.std.proofs.lemmas.List.Elements.{All-map, All-weaker, All-contains_itself, All-contains}
use Rattle.std.specs.Prelude.{Contains}
use Rattle.seam_geo.specs.declared.pos.Pos.{Pos}
use Rattle.seam_node_steps.specs.Prelude.{AreDefs, AreLegal, Create, Division, cells_of, leaf_at, Place}
use Rattle.seam_haunt.specs.Places.{Distances, settled, settled_all, IsPlaceAfter}
use Rattle.seam_haunt.specs.Haunts.{distance_to_cell}
use Rattle.seam_tree.proofs.Leaves.{leaf_is_cell}
use Rattle.seam_rule_rounds.specs.Prelude.{Header, Book, created_as, live_as, HasPlace, place_before, makes, tree_of, Standing}
use Rattle.seam_rule_rounds.specs.Prelude.{IsRound, RoundData, GhostLine, home_line, base_line, ghost_lines, distances}
use Rattle.seam_rule_rounds.specs.RoundPlaces.{ghost_cells}
use Rattle.seam_rule_rounds.specs.FlatTable.{position_at, positions_past, version_of, public_at}
use Rattle.seam_rule_lines.specs.FlatTable.{flat}
use Rattle.seam_rule_rounds.proofs.Public.{public_at_most}
use Rattle.seam_rule_lines.proofs.BookEntries.{live_is_created}
use Rattle.seam_defs.specs.declared.flags.Part.TheVariants as part
use Rattle.seam_law_texts.specs.Forms.{IsHome, IsBase, IsGhost}
use Rattle.seam_law_book.specs.Prelude.{IsOfLines}
use Rattle.seam_law_book.proofs.Untouched.{orderly}
use Rattle.seam_law_forms.specs.Counting.{AreCounted}
use Rattle.seam_law_forms.proofs.Members.{all_in, all_flat, in_filter, in_range}
use Rattle.seam_law_forms.proofs.Made.{made_is}
use Rattle.seam_law_forms.proofs.States.{IsHeldState, flat_is, has_real}
use Rattle.seam_law_forms.proofs.Executed.{all_fit, listed_is, type_is}

-- ---- homes are cells

module _ (d : Distances) (tree : Division) where
  settles_in_cell : (was : Place) (p : Pos) → was.home < cells_of tree → (settled d tree was p).home < cells_of tree
  settles_in_cell was p there = by (nat_le (distance_to_cell tree was.home p) d.kept)
    where
      by : (t : Bool) → cond t was.home (leaf_at tree p) < cells_of tree
      by true = there
      by false = leaf_is_cell tree p

  all_settle : (path : List Pos) (was : Place) → was.home < cells_of tree → (settled_all d tree was path).home < cells_of tree
  all_settle [] was there = there
  all_settle (p ∷ path) was there = all_settle path (settled d tree was p) (settles_in_cell was p there)

  after_in_cell : (was after : Place) (start : Pos) (path : List Pos) → was.home < cells_of tree →
      IsPlaceAfter d tree was start path after → after.home < cells_of tree
  after_in_cell was after start path there (inl is) =
      subst (λ (x : Place). x.home < cells_of tree) (sym is) (all_settle (start ∷ path) was there)
  after_in_cell was after start path there (inr (some, is)) =
      subst (λ (x : Place). x.home < cells_of tree) (sym is) (all_settle path was there)

began_in_cell : (s : Standing) (c : Create) → ((e : ℕ) → (s.places e).home < cells_of (tree_of s.book)) →
    (place_before s c).home < cells_of (tree_of s.book)
began_in_cell s c there = by (list_any (makes c.entity) s.book.current)
  where
    by : (t : Bool) →
        (cond t (record { home = leaf_at (tree_of s.book) c.pos; ghosts = set.empty }) (s.places c.entity)).home < cells_of (tree_of s.book)
    by true = leaf_is_cell (tree_of s.book) c.pos
    by false = there c.entity

-- the cell of the home line of an entity that has its place
pub home_in_cell : (h : Header) (s t : Standing) (c : Create) → ((e : ℕ) → (s.places e).home < cells_of (tree_of s.book)) →
    HasPlace h s t c → (t.places c.entity).home < cells_of (tree_of s.book)
home_in_cell h s t c homes place =
    let order = t.orders part.Cell c.entity in
    after_in_cell (distances h.settings) (tree_of s.book) (place_before s c) (t.places c.entity)
    (position_at h c order (version_of s.orders part.Cell c)) (positions_past h c order (version_of s.orders part.Cell c))
    (began_in_cell s c homes) place

-- ---- the lines

module _ (h : Header) (legal : AreLegal h.settings) (defs : AreDefs h.defs) (s : Standing) (r : RoundData) (t : Standing)
    (of_lines : IsOfLines h s.book) (homes : (e : ℕ) → (s.places e).home < cells_of (tree_of s.book)) (counted : AreCounted s t)
    (round : IsRound h s r t) where
  abbrev b : Book
  b = s.book

  few_cells : cells_of (tree_of b) ≤ 16
  few_cells = (orderly h b legal of_lines).tree.cells_to

  abbrev IsAlive : Create → Type 0
  IsAlive c = live_as b c.entity ≡ Some c

  alive : All IsAlive round.live
  alive = listed_is (live_as b) round.live round.listed

  -- a state of the flat table
  pub cell_state : (e : ℕ) (c : Create) → created_as b e ≡ Some c → (v : ℕ) →
      IsHeldState h defs part.Cell c (flat h part.Cell c (t.orders part.Cell e) v)
  cell_state e c is v =
      flat_is h defs part.Cell c (made_is h b of_lines e c is).0.inside (t.orders part.Cell e)
      (all_fit h b of_lines part.Cell e (t.orders part.Cell e) (round.did.full e) c is) v

  pub base_state : (e : ℕ) (c : Create) → created_as b e ≡ Some c → (v : ℕ) →
      IsHeldState h defs part.Base c (flat h part.Base c (t.orders part.Base e) v)
  base_state e c is v =
      flat_is h defs part.Base c (made_is h b of_lines e c is).0.inside (t.orders part.Base e)
      (all_fit h b of_lines part.Base e (t.orders part.Base e) (round.dob.full e) c is) v

  home_is : (c : Create) → IsAlive c → HasPlace h s t c → IsHome h.defs b (home_line h t c)
  home_is c lives place =
      let is = live_is_created b c.entity c lives in
      let order = t.orders part.Cell c.entity in
      let cell = home_in_cell h s t c homes place in
      let few = few_cells in
      record {
        entity = (made_is h b of_lines c.entity c is).0.number;
        ty = type_is b c.entity c is;
        cell = omega (arith, cell, few);
        version = counted.orders part.Cell c.entity;
        state = has_real h legal defs c (flat h part.Cell c order (length order)) (cell_state c.entity c is (length order));
      }

  pub homes_in_form : All (IsHome h.defs b) r.homes
  homes_in_form =
      subst (All (IsHome h.defs b)) (sym round.homes)
      (All-map (IsHome h.defs b) (home_line h t) round.live
      (All-weaker (Contains round.live) (λ (c : Create). IsHome h.defs b (home_line h t c))
      (λ c has. home_is c (All-contains IsAlive round.live c alive has) (All-contains (HasPlace h s t) round.live c round.places has))
      round.live (All-contains_itself round.live)))

  base_is : (c : Create) → IsAlive c → IsBase h.defs b (base_line h t c)
  base_is c lives =
      let is = live_is_created b c.entity c lives in
      let order = t.orders part.Base c.entity in
      record {
        entity = (made_is h b of_lines c.entity c is).0.number;
        ty = type_is b c.entity c is;
        version = counted.orders part.Base c.entity;
        values = (base_state c.entity c is (length order)).values;
      }

  pub bases_in_form : All (IsBase h.defs b) r.bases
  bases_in_form =
      subst (All (IsBase h.defs b)) (sym round.bases)
      (All-map (IsBase h.defs b) (base_line h t) round.live
      (All-weaker IsAlive (λ (c : Create). IsBase h.defs b (base_line h t c)) base_is round.live alive))

  ghosts_are : (c : Create) → IsAlive c → All IsGhost (ghost_lines h (tree_of b) t c)
  ghosts_are c lives =
      let is = live_is_created b c.entity c lives in
      let order = t.orders part.Cell c.entity in
      let line : ℕ → GhostLine =
      λ cell. record { entity = c.entity; cell = cell; version = public_at h c order (length order) } in
      All-map IsGhost line (ghost_cells (tree_of b) (t.places c.entity))
      (all_in (λ (cell : ℕ). IsGhost (line cell)) (ghost_cells (tree_of b) (t.places c.entity)) (λ cell has.
      let there = in_filter (λ (x : ℕ). set.contains (t.places c.entity).ghosts x) (range_with_len 0 (cells_of (tree_of b))) cell has in
      let below = (in_range 0 (cells_of (tree_of b)) cell there.0).1 in
      let few = few_cells in
      let most = public_at_most h c order (length order) in
      let long = counted.orders part.Cell c.entity in
      record {
        entity = (made_is h b of_lines c.entity c is).0.number;
        cell = omega (arith, below, few);
        version = omega (arith, most, long);
      }))

  pub ghosts_in_form : All IsGhost r.ghosts
  ghosts_in_form =
      subst (All IsGhost) (sym round.ghosts)
      (all_flat IsGhost (ghost_lines h (tree_of b) t) round.live
      (All-weaker IsAlive (λ (c : Create). All IsGhost (ghost_lines h (tree_of b) t c)) ghosts_are round.live alive))
