-- In a world between rounds a witness tells one look at the flat table.
use Rattle.seam_law_clients.proofs.Prelude.{◌≡◌, ℕ, ◌+◌, ◌<◌, ◌≤◌, ◌⊎◌, Bool, true, false, cond, List, [], ◌∷◌, ◌++◌, map, Option, None}
use Rattle.seam_law_clients.proofs.Prelude.{Some, refl, sym, ap, ◌∙◌, arith, inl, inr, option_map, slice_get, nat_lt, max, AllByRecursion}
use Rattle.seam_law_clients.proofs.Prelude.{filter_map, nat_cmp, cases_eq, nat_tests, Pos, distance, State, Property, ghost_of, other_of}
use Rattle.seam_law_clients.proofs.Prelude.{own_of, projected, type_of, copy_in, GhostCopy, Own, Here, cell_count, properties, RealView}
use Rattle.seam_law_clients.proofs.Prelude.{WitnessView, Known, seen_as, other_of_real, other_of_copy, shown_for, own_due, shown_of}
use Rattle.seam_law_clients.proofs.Prelude.{CellView, known_to, is_another, copy_if, holders, World, node_has_work, Cell, slot_at}
use Rattle.seam_law_clients.proofs.Prelude.{letters_of, Frame, here_at, has_of, has_none, mine, real_in, real_of, real_at, IsBetweenRounds}
use Rattle.seam_law_clients.proofs.Prelude.{present, copy_at, AreCopiesBetweenRounds, row_of_real, rows_of, version_in, FitsWitness}
use Rattle.seam_law_clients.proofs.Prelude.{quiet_links, Seen, Look, Replica, IsView, is_far, not_older, plain_look, AreNotOlder}
use Rattle.seam_law_clients.proofs.Prelude.{none_counts, Somewhere, Nowhere, search_real, ClientReplica, Row, row_of, rows_but, seen}
use Rattle.seam_law_clients.proofs.Prelude.{is_newer, own_shown, look_at, look_by, one_look, each_found, known_by, known_at, known_rises}
use Rattle.seam_law_clients.proofs.Prelude.{known_to_is}
use Rattle.std.specs.FinMap as table
use Rattle.std.specs.FinSet as set
use Rattle.seam_node_steps.specs.Prelude.{all_shown}
use Rattle.seam_geo.specs.Pos.{gap}
use Rattle.seam_view.specs.ViewLooks as view
use Rattle.seam_defs.specs.declared.flags.Group.TheVariants as group
use Rattle.seam_rule_clients.specs.Looks as replica
use Rattle.seam_law_clients.proofs.Near.{near, AreAlike, lines_alike}
use Rattle.seam_law_clients.proofs.Rows.{found_in, IsRowIn, real_among, searched, row_found, others, others_rise, others_found, seen_others}
use Rattle.seam_law_clients.proofs.Rows.{lines_of_others}

gap_same : (a b : ℕ) → gap a b ≡ gap b a
gap_same a b = omega arith

distance_same : (p q : Pos) → distance p q ≡ distance q p
distance_same p q = λ i. max (gap_same p.x q.x i) (gap_same p.z q.z i)

-- what other clients are shown of the real, by the frame
abbrev pub shown_now : Frame → RealView → GhostCopy
shown_now f q = other_of_real (here_at f 0) q

-- ---- the rows, and what a cell knows

module _ (f : Frame) (w : World) (between : IsBetweenRounds f w) where
  -- the one real of an entity
  pub same_real : (x j k : ℕ) (q p : RealView) → real_at x w j ≡ Some q → real_at x w k ≡ Some p → (k ≡ j) × (p ≡ q)
  same_real x j k q p at too = elim (cases_eq k j) [
    | inl is ↦ (is, (let z = sym too ∙ ap (λ n. real_at x w n) is ∙ at in cc))
    | inr n ↦ absurd (let z = sym too ∙ (between.settled x j q at).others k n in cc)
  ]

  pub row_there : (x j : ℕ) (q : RealView) → real_at x w j ≡ Some q → found_in x w.nodes ≡ Some (row_of_real (here_at f 0) (x, q))
  row_there x j q at = by (searched x w.nodes)
    where
      by : ((row : Row) × (found_in x w.nodes ≡ Some row) × IsRowIn x w.nodes row)
          ⊎ ((found_in x w.nodes ≡ None) × ((k : ℕ) → real_among x w.nodes k ≡ None)) →
          found_in x w.nodes ≡ Some (row_of_real (here_at f 0) (x, q))
      by (inl h) =
          let r = h.2 in
          let too = ap (λ o. real_in (slot_at (has_of x) has_none o)) r.at ∙ r.here in
          let same = same_real x j r.node q r.real at too in
          h.1 ∙ ap (λ y. Some y) (r.is
          ∙ ap (λ g. row_of_real g (x, r.real)) (between.nodes.nodes r.node (Cell r.cell) r.at).here
          ∙ ap (λ p. row_of_real (here_at f 0) (x, p)) same.1)
      by (inr m) = absurd (let z = sym (m.1 j) ∙ at in cc)

  pub row_nowhere : (x : ℕ) → Nowhere x w → found_in x w.nodes ≡ None
  row_nowhere x n = by (searched x w.nodes)
    where
      by : ((row : Row) × (found_in x w.nodes ≡ Some row) × IsRowIn x w.nodes row)
          ⊎ ((found_in x w.nodes ≡ None) × ((k : ℕ) → real_among x w.nodes k ≡ None)) → found_in x w.nodes ≡ None
      by (inl h) =
          let r = h.2 in
          let too = ap (λ o. real_in (slot_at (has_of x) has_none o)) r.at ∙ r.here in
          absurd (let z = sym too ∙ n r.node in cc)
      by (inr m) = m.0

  none_held : (x : ℕ) → Nowhere x w → holders w x ≡ 0
  none_held x n = none_counts w x (record {
    slots = n;
    mail = λ a b.
        ap (λ l. letters_of real_of (letters_of (mine x) l)) (quiet_links node_has_work w between.nodes.sound.square between.quiet a b);
  })

  module _ (copies : AreCopiesBetweenRounds f w)
      (ghosts : (ps : List Property) (s : State) → projected ps group.Ghost group.Other (ghost_of ps s).props ≡ (other_of ps s).props)
      (k : ℕ) (cell : CellView) (node : slice_get w.nodes k ≡ Some (Cell cell)) where
    here_is : cell.here ≡ here_at f k
    here_is = (between.nodes.nodes k (Cell cell) node).here

    low : k < cell_count
    low = (between.nodes.nodes k (Cell cell) node).low

    pub real_is : (x : ℕ) → real_at x w k ≡ table.get cell.reals x
    real_is x = ap (λ o. real_in (slot_at (has_of x) has_none o)) node

    copy_is : (x : ℕ) → copy_at x w k ≡ copy_in (table.get cell.ghosts x)
    copy_is x = ap (λ o. copy_in (slot_at (has_of x) has_none o).cell.slot.ghost) node

    -- the copy that a haunt has gives what the real gives
    by_copy : (q : RealView) → other_of_copy (here_at f k) (present f q) ≡ shown_now f q
    by_copy q = λ i. record {
      ty = q.ty;
      version = q.public;
      state = record { pos = q.state.pos; props = ghosts (type_of f.defs q.ty).properties q.state i };
    }

    known_as : (x : ℕ) (r : Option RealView) (c : Option GhostCopy) → real_at x w k ≡ r → copy_at x w k ≡ c →
        known_at cell x ≡ known_by (here_at f k) r c
    known_as x r c at copy =
        ap (λ h. known_by h (table.get cell.reals x) (copy_in (table.get cell.ghosts x))) here_is
        ∙ ap (λ o. known_by (here_at f k) o (copy_in (table.get cell.ghosts x))) (sym (real_is x) ∙ at)
        ∙ ap (known_by (here_at f k) r) (sym (copy_is x) ∙ copy)

    pub known_nowhere : (x : ℕ) → Nowhere x w → known_at cell x ≡ None
    known_nowhere x n = known_as x None None (n k) (copies.none x (none_held x n) k low)

    -- an entity is known as others are shown it, or not at all, and then this cell is neither its home nor a haunt
    pub data IsKnown (x j : ℕ) (q : RealView) : Type 0 where
      knows : known_at cell x ≡ Some (shown_now f q) → IsKnown x j q
      knows_not : known_at cell x ≡ None → (k ≡ j → ⊥) → set.contains q.haunts k ≡ false → IsKnown x j q

    away_by : (x j : ℕ) (q : RealView) (b : Bool) → (k ≡ j → ⊥) → real_at x w k ≡ None →
        set.contains q.haunts k ≡ b → copy_at x w k ≡ copy_if b (present f q) → IsKnown x j q
    away_by x j q true n none is copy =
        knows (known_as x None (Some (present f q)) none copy ∙ ap (λ y. Some y) (by_copy q))
    away_by x j q false n none is copy = knows_not (known_as x None None none copy) n is

    pub known_there : (x j : ℕ) (q : RealView) → real_at x w j ≡ Some q → IsKnown x j q
    known_there x j q at = elim (cases_eq k j) [
      | inl is ↦ knows (known_as x (Some q) (copy_at x w k) (ap (λ n. real_at x w n) is ∙ at) refl)
      | inr n ↦
          away_by x j q (set.contains q.haunts k) n ((between.settled x j q at).others k n) refl
          ((copies.settled x j q at).copies k low)
    ]

-- ---- a look

abbrev pub table_at : World → ℕ → Option GhostCopy
table_at w x = option_map (λ r. r.other) (found_in x w.nodes)

pub own_by : (h : Here) (r : RealView) (w : WitnessView) (known : List Known) (looks : List Look) (b : Bool) →
    own_due w.told r.version ≡ b → all_shown h r w known looks ≡ cond b (Own r.version (own_of (properties h r.ty) r.state) ∷ []) [] ++
    filter_map (shown_for known) looks
own_by h r w known looks true due = rw due refl
own_by h r w known looks false due = rw due refl

due_by : (o : Option (ℕ × State)) (version : ℕ) → own_due (option_map version_in o) version ≡ is_newer o version
due_by None version = refl
due_by (Some last) version = refl

shown_at_most : (o : Option ℕ) (version top : ℕ) → ((t : ℕ) → o ≡ Some t → t ≤ top) → version ≡ top → not_older o version ≡ true
shown_at_most None version top h is = refl
shown_at_most (Some t) version top h is = let le = h t refl in grind (arith, nat_tests, le, is)

within : (reach d : ℕ) → nat_lt reach d ≡ false → d ≤ reach
within reach d far = grind (arith, nat_tests, far)

module _ (f : Frame) (w : World) (between : IsBetweenRounds f w) (copies : AreCopiesBetweenRounds f w)
    (seen_near : (e i : ℕ) (r : RealView) → real_at e w i ≡ Some r → (x j : ℕ) (q : RealView) →
    real_at x w j ≡ Some q → distance q.state.pos r.state.pos ≤ f.settings.view_radius + f.settings.view_hysteresis →
    (i ≡ j) ⊎ (set.contains q.haunts i ≡ true))
    (ghosts : (ps : List Property) (s : State) → projected ps group.Ghost group.Other (ghost_of ps s).props ≡ (other_of ps s).props)
    (plain : (r : Replica) (own : Pos) (known : List Seen) → IsView r → AreNotOlder r known →
    view.one_look r own known ≡ plain_look r own known)
    (e k : ℕ) (r : RealView) (at : real_at e w k ≡ Some r) (v : WitnessView) (c : ClientReplica)
    (fits : FitsWitness f w r v c) (cell : CellView) (node : slice_get w.nodes k ≡ Some (Cell cell)) where
  abbrev known : List Known
  known = known_to cell e

  -- who is not known is far
  far_by : (x j : ℕ) (q : RealView) (b : Bool) → real_at x w j ≡ Some q → (k ≡ j → ⊥) →
      set.contains q.haunts k ≡ false → is_far v.view r.state.pos q.state.pos ≡ b → b ≡ true
  far_by x j q true there n none is = refl
  far_by x j q false there n none is = absurd (by (seen_near e k r at x j q there close))
    where
      close : distance q.state.pos r.state.pos ≤ f.settings.view_radius + f.settings.view_hysteresis
      close =
          let le = within (v.view.radius + v.view.hysteresis) (distance r.state.pos q.state.pos) is in
          let same = distance_same r.state.pos q.state.pos in
          let radius = fits.radius in
          let hysteresis = fits.hysteresis in
          omega (arith, le, same, radius, hysteresis)

      by : (k ≡ j) ⊎ (set.contains q.haunts k ≡ true) → ⊥
      by (inl is) = n is
      by (inr has) = let z = sym none ∙ has in cc

  table_there : (x j : ℕ) (q : RealView) → real_at x w j ≡ Some q → table_at w x ≡ Some (shown_now f q)
  table_there x j q there = ap (option_map (λ y. y.other)) (row_there f w between x j q there)

  near_by : (x j : ℕ) (q : RealView) → real_at x w j ≡ Some q → IsKnown f w between copies ghosts k cell node x j q →
      near v.view r.state.pos (known_at cell x) ≡ near v.view r.state.pos (table_at w x)
  near_by x j q there (knows is) = ap (near v.view r.state.pos) (is ∙ sym (table_there x j q there))
  near_by x j q there (knows_not is n none) =
      ap (near v.view r.state.pos) is
      ∙ sym (ap (λ b. cond b None (Some (shown_now f q))) (far_by x j q (is_far v.view r.state.pos q.state.pos) there n none refl))
      ∙ sym (ap (near v.view r.state.pos) (table_there x j q there))

  near_same : (x : ℕ) → near v.view r.state.pos (known_at cell x) ≡ near v.view r.state.pos (table_at w x)
  near_same x = by (search_real x w)
    where
      by : Somewhere x w ⊎ Nowhere x w → near v.view r.state.pos (known_at cell x) ≡ near v.view r.state.pos (table_at w x)
      by (inl p) = near_by x p.0 p.1 p.2 (known_there f w between copies ghosts k cell node x p.0 p.1 p.2)
      by (inr n) =
          ap (near v.view r.state.pos) (known_nowhere f w between copies ghosts k cell node x n
          ∙ sym (ap (option_map (λ y. y.other)) (row_nowhere f w between x n)))

  unless_near : (b : Bool) (o p : Option GhostCopy) → near v.view r.state.pos o ≡ near v.view r.state.pos p →
      near v.view r.state.pos (cond b o None) ≡ near v.view r.state.pos (cond b p None)
  unless_near true o p h = h
  unless_near false o p h = refl

  alike : AreAlike v.view r.state.pos known (others w e)
  alike = record {
    rises = known_rises cell e;
    rises_too = others_rise w e;
    same = λ x.
        ap (near v.view r.state.pos) (known_to_is cell e x)
        ∙ unless_near (is_another e x) (known_at cell x) (table_at w x) (near_same x)
        ∙ sym (ap (near v.view r.state.pos) (others_found w e x));
  }

  -- nothing known is older than what was shown
  version_by : (x j : ℕ) (q : RealView) (d : GhostCopy) → real_at x w j ≡ Some q →
      IsKnown f w between copies ghosts k cell node x j q → known_at cell x ≡ Some d → not_older (table.get v.view.shown x) d.version ≡ true
  version_by x j q d there (knows is) known_is =
      let same : shown_now f q ≡ d = let z = sym is ∙ known_is in cc in
      shown_at_most (table.get v.view.shown x) d.version q.public (λ t shown. fits.others_not_ahead x j t q shown there)
      (sym (ap (λ y. y.version) same))
  version_by x j q d there (knows_not is n none) known_is = absurd (let z = sym is ∙ known_is in cc)

  version_known : (x : ℕ) (d : GhostCopy) → known_at cell x ≡ Some d → not_older (table.get v.view.shown x) d.version ≡ true
  version_known x d is = by (search_real x w)
    where
      by : Somewhere x w ⊎ Nowhere x w → not_older (table.get v.view.shown x) d.version ≡ true
      by (inl p) = version_by x p.0 p.1 d p.2 (known_there f w between copies ghosts k cell node x p.0 p.1 p.2) is
      by (inr n) = absurd (let z = sym (known_nowhere f w between copies ghosts k cell node x n) ∙ is in cc)

  unless_is : (b : Bool) (o : Option GhostCopy) (d : GhostCopy) → cond b o None ≡ Some d → o ≡ Some d
  unless_is true o d h = h
  unless_is false o d h = cc

  fresh : (ks : List Known) → AllByRecursion (λ y. table.find nat_cmp y.0 known ≡ Some y.1) ks → AreNotOlder v.view (map seen_as ks)
  fresh [] h = tt
  fresh (y ∷ ks) h = (
    version_known y.0 y.1 (unless_is (is_another e y.0) (known_at cell y.0) y.1 (sym (known_to_is cell e y.0) ∙ h.0)),
    fresh ks h.1,
  )

  lines_same : filter_map (shown_for known) (view.one_look v.view r.state.pos (map seen_as known))
      ≡ filter_map (replica.shown_for (rows_but e (rows_of w))) (plain_look v.view r.state.pos (map seen (rows_but e (rows_of w))))
  lines_same =
      ap (filter_map (shown_for known))
      (plain v.view r.state.pos (map seen_as known) fits.view (fresh known (each_found known (known_rises cell e))))
      ∙ lines_alike v.view r.state.pos known (others w e) alike
      ∙ sym (lines_of_others w e (plain_look v.view r.state.pos (map seen_as (others w e))))
      ∙ ap (λ ss. filter_map (replica.shown_for (rows_but e (rows_of w))) (plain_look v.view r.state.pos ss)) (sym (seen_others w e))

  due_same : own_due v.told r.version ≡ is_newer c.own r.version
  due_same = ap (λ t. own_due t r.version) (sym fits.told) ∙ due_by c.own r.version

  pub looks_as_table : shown_of cell.here r v known ≡ one_look c e (rows_of w)
  looks_as_table =
      ap (λ h. shown_of h r v known) (between.nodes.nodes k (Cell cell) node).here
      ∙ own_by (here_at f k) r v known (view.one_look v.view r.state.pos (map seen_as known)) (is_newer c.own r.version) due_same
      ∙ ap (λ ls. own_shown c (row_of_real (here_at f 0) (e, r)) ++ ls) (lines_same
      ∙ ap (λ y. filter_map (replica.shown_for (rows_but e (rows_of w))) (plain_look y r.state.pos (map seen (rows_but e (rows_of w)))))
      (sym fits.others))
      ∙ sym (ap (λ o. look_by c o (rows_but e (rows_of w))) (row_found w e ∙ row_there f w between e k r at))
