-- In a round each cell knows of others only what they were since the load.
use Rattle.seam_law_clients.proofs.Prelude.{◌≡◌, ℕ, ◌≤◌, ◌⊎◌, Bool, true, false, cond, List, [], Option, None, Some, refl, sym, ap, ◌∙◌}
use Rattle.seam_law_clients.proofs.Prelude.{subst, arith, inl, inr, slice_get, AllByRecursion, cases_lt, Event, State, Property, ghost_of}
use Rattle.seam_law_clients.proofs.Prelude.{other_of, projected, type_of, copy_in, Batch, GhostCopy, RealView, cell_count, other_of_real}
use Rattle.seam_law_clients.proofs.Prelude.{other_of_copy, CellView, known_to, is_another, holders, loaded, NodeView, World, Cell, Base}
use Rattle.seam_law_clients.proofs.Prelude.{slot_at, letters_of, Frame, here_at, IsInFrame, has_of, has_none, entity_flow, real_in, real_of}
use Rattle.seam_law_clients.proofs.Prelude.{IsAbsent, CarriesNoEntity, RunsTo, real_at, framed, MayBegin, book_entry, IsTrueCopy, IsTrue}
use Rattle.seam_law_clients.proofs.Prelude.{present, copy_at, AreCopiesBetweenRounds, ComesBetween, IsTrueBetween, WasOther, true_between}
use Rattle.seam_law_clients.proofs.Prelude.{sole_here, none_counts, no_mail, settled_loaded, Somewhere, Nowhere, search_real, frame_leads}
use Rattle.seam_law_clients.proofs.Prelude.{true_more, present_first, absent_leads, known_by, known_at, known_to_is}
use Rattle.std.specs.FinMap as table
use Rattle.seam_defs.specs.declared.flags.Group.TheVariants as group
use Rattle.seam_law_clients.proofs.Near.{known_found}

-- ---- an entity that is nowhere

module _ (f : Frame) (x : ℕ) where
  -- a base node has no copy
  base_has_none : (w : World) → IsInFrame f w → (k : ℕ) → cell_count ≤ k → (n : Option NodeView) → slice_get w.nodes k ≡ n →
      copy_in (slot_at (has_of x) has_none n).cell.slot.ghost ≡ None
  base_has_none w frame k high None at = refl
  base_has_none w frame k high (Some (Base b)) at = refl
  base_has_none w frame k high (Some (Cell c)) at =
      let low = (frame.nodes k (Cell c) at).low in
      absurd (omega (arith, low, high))

  all_bring_none : (a k : ℕ) (w : World) → (entity_flow x w).mail a k ≡ [] → AllByRecursion CarriesNoEntity ((entity_flow x w).mail a k)
  all_bring_none a k w is = subst (AllByRecursion CarriesNoEntity) (sym is) tt

-- ---- a round

module _ (f : Frame) (w : World) (b : Batch) (begin : MayBegin f w b)
    (framed_ : IsInFrame (framed f b) (loaded w b)) (copies : AreCopiesBetweenRounds (framed f b) (loaded w b))
    (truths : (u : World) (us : List Event) → RunsTo (loaded w b) us u → (x k : ℕ) (r : RealView) →
    real_at x (loaded w b) k ≡ Some r → IsTrue (framed f b) x r.ty r (λ n. present (framed f b) r) u)
    (ghosts : (ps : List Property) (s : State) → projected ps group.Ghost group.Other (ghost_of ps s).props ≡ (other_of ps s).props)
    (v : World) where
  abbrev g : Frame
  g = framed f b

  abbrev start : World
  start = loaded w b

  pub absent_at_start : (x : ℕ) → Nowhere x start → IsAbsent x start
  absent_at_start x n = record {
    cells = λ k. record { real = n k; copy = none k };
    letters = λ a k. all_bring_none g x a k start (no_mail f w b begin x a k);
  }
    where
      zero_ : holders start x ≡ 0
      zero_ = none_counts start x (record { slots = n; mail = λ a k. ap (letters_of real_of) (no_mail f w b begin x a k) })

      none : (k : ℕ) → copy_in ((entity_flow x start).slot k).cell.slot.ghost ≡ None
      none k = elim (cases_lt k cell_count) [
        | inl low ↦ copies.none x zero_ k low
        | inr high ↦ base_has_none g x start framed_ k high (slice_get start.nodes k) refl
      ]

  -- what another is shown of the copy that its real wants
  by_copy : (q : RealView) → other_of_real (here_at g 0) q ≡ other_of_copy (here_at g 0) (present g q)
  by_copy q = sym (λ i. record {
    ty = q.ty;
    version = q.public;
    state = record { pos = q.state.pos; props = ghosts (type_of g.defs q.ty).properties q.state i };
  })

  module _ (u : World) (m : ComesBetween start v u) (k : ℕ) (cell : CellView) (node : slice_get u.nodes k ≡ Some (Cell cell)) (x : ℕ) where
    real_is : real_at x u k ≡ table.get cell.reals x
    real_is = ap (λ o. real_in (slot_at (has_of x) has_none o)) node

    copy_is : copy_at x u k ≡ copy_in (table.get cell.ghosts x)
    copy_is = ap (λ o. copy_in (slot_at (has_of x) has_none o).cell.slot.ghost) node

    here_is : cell.here ≡ here_at g k
    here_is = ((frame_leads g start u m.before framed_ m.from).nodes k (Cell cell) node).here

    -- ---- of an entity that was there

    module _ (home : ℕ) (r : RealView) (there : real_at x start home ≡ Some r) where
      its : IsTrue g x r.ty r (λ n. present g r) u
      its = truths u m.before m.from x home r there

      first_low : r.public ≤ r.version
      first_low = (settled_loaded f w b begin x home r there).public

      first_version : (its.table r.beat).version ≡ r.public
      first_version = ap (λ (y : GhostCopy). y.version) (its.kept r.beat (let s : r.beat ≤ r.beat = omega arith in s))

      public_rose : r.public ≤ its.one.has.real.public
      public_rose =
          let top : its.one.has.real.beat ≤ its.one.has.real.beat = omega arith in
          let a = its.told.rises r.beat its.one.has.real.beat its.beats top
          in
          let c = its.told.top in
          let s = first_version in
          omega (arith, a, c, s)

      was : (d copy : GhostCopy) → IsTrueCopy g r its.one.replays.further copy → r.public ≤ copy.version →
          copy.version ≤ its.one.has.real.public → d ≡ other_of_copy (here_at g 0) copy → WasOther g start v x d
      was d copy is_true new low is = record {
        home = home;
        first = r;
        at_first = there;
        world = u;
        between = m;
        place = its.one.has.place;
        real = its.one.has.real;
        one = its.one.has.one;
        replays = its.one.replays;
        copy = copy;
        true_ = is_true;
        not_before = new;
        not_ahead = low;
        is = is;
      }

      by_real : (d : GhostCopy) (q : RealView) → table.get cell.reals x ≡ Some q → other_of_real cell.here q ≡ d → WasOther g start v x d
      by_real d q has is =
          let one : q ≡ its.one.has.real =
          (sole_here real_in real_of (entity_flow x u) its.one.has.place its.one.has.real q k its.one.has.one (real_is ∙ has)).1 in
          let top : its.one.has.real.public ≤ its.one.has.real.public = omega arith in
          was d (present g its.one.has.real) its.present public_rose top
          (sym is ∙ (ap (λ h. other_of_real h q) here_is ∙ (by_copy q ∙ ap (λ y. other_of_copy (here_at g 0) (present g y)) one)))

      entry_true : (copy : GhostCopy) (beat : ℕ) → beat ≤ its.one.has.real.beat → copy ≡ its.table beat →
          IsTrueCopy g r its.one.replays.further copy × (r.public ≤ copy.version)
      entry_true copy beat low is = elim (cases_lt r.beat beat) [
        | inl later ↦ (
          subst (IsTrueCopy g r its.one.replays.further) (sym is) (its.true_copies beat later low),
          (let a = its.told.rises r.beat beat (let s : r.beat ≤ beat = omega (arith, later) in s) low in
              let s = first_version in
              let c = ap (λ (y : GhostCopy). y.version) is in
              omega (arith, a, s, c)),
        )
        | inr early ↦
            let same : copy ≡ present g r = is ∙ its.kept beat early in
            let c = ap (λ (y : GhostCopy). y.version) same in (
              subst (IsTrueCopy g r its.one.replays.further) (sym same)
                  (true_more g r [] its.one.replays.further (present g r) (present_first g r first_low)),
              (omega (arith, c)),
            )
      ]

      entry_low : (copy : GhostCopy) (beat : ℕ) → beat ≤ its.one.has.real.beat → copy ≡ its.table beat →
          copy.version ≤ its.one.has.real.public
      entry_low copy beat low is =
          let a = its.told.rises beat its.one.has.real.beat low
          (let s : its.one.has.real.beat ≤ its.one.has.real.beat = omega arith in s) in
          let c = its.told.top in
          let s = ap (λ (y : GhostCopy). y.version) is in
          omega (arith, a, c, s)

      by_book : (d copy : GhostCopy) → copy_in (table.get cell.ghosts x) ≡ Some copy → other_of_copy cell.here copy ≡ d →
          WasOther g start v x d
      by_book d copy has is =
          let entry = its.told.books k in
          let t = entry_true copy (book_entry ((entity_flow x u).slot k)).0 entry.low (entry.copy copy (copy_is ∙ has)) in
          let low = entry_low copy (book_entry ((entity_flow x u).slot k)).0 entry.low (entry.copy copy (copy_is ∙ has)) in
          was d copy t.0 t.1 low (sym is ∙ ap (λ h. other_of_copy h copy) here_is)

      by_either : (d : GhostCopy) (q : Option RealView) (c : Option GhostCopy) → table.get cell.reals x ≡ q →
          copy_in (table.get cell.ghosts x) ≡ c → known_by cell.here q c ≡ Some d → WasOther g start v x d
      by_either d (Some q) c has_real has_copy is = by_real d q has_real (some_is (other_of_real cell.here q) d is)
        where
          some_is : (a b : GhostCopy) → Some a ≡ Some b → a ≡ b
          some_is a b h = cc
      by_either d None (Some copy) has_real has_copy is = by_book d copy has_copy (some_is (other_of_copy cell.here copy) d is)
        where
          some_is : (a b : GhostCopy) → Some a ≡ Some b → a ≡ b
          some_is a b h = cc
      by_either d None None has_real has_copy is = absurd (none_some d is)
        where
          none_some : (a : GhostCopy) → None ≡ Some a → ⊥
          none_some a h = cc

    -- ---- of any

    none_known : IsAbsent x u → (d : GhostCopy) → known_at cell x ≡ Some d → ⊥
    none_known absent d is =
        let blank = absent.cells k in
        none_some d (sym (ap (λ q. known_by cell.here q (copy_in (table.get cell.ghosts x))) (sym real_is ∙ blank.real)
        ∙ ap (known_by cell.here None) (sym copy_is ∙ blank.copy)) ∙ is)
      where
        none_some : (a : GhostCopy) → None ≡ Some a → ⊥
        none_some a h = cc

    known_was : (d : GhostCopy) → known_at cell x ≡ Some d → Somewhere x start ⊎ Nowhere x start → WasOther g start v x d
    known_was d is (inl p) =
        by_either p.0 p.1 p.2 d (table.get cell.reals x) (copy_in (table.get cell.ghosts x)) refl refl is
    known_was d is (inr n) =
        absurd (none_known (absent_leads g x start u m.before framed_ (absent_at_start x n) m.from) d is)

  unless_is : (t : Bool) (o : Option GhostCopy) (d : GhostCopy) → cond t o None ≡ Some d → o ≡ Some d
  unless_is true o d h = h
  unless_is false o d h = cc

  pub round_is_true : (e : ℕ) → IsTrueBetween g e (true_between g e start v) start v
  round_is_true e = record {
    own = λ u m k r here. record { world = u; between = m; node = k; real = r; here = here; at = refl; is = refl };
    others = λ u m k cell node x d is.
        known_was u m k cell node x d
        (unless_is (is_another e x) (known_at cell x) d (sym (known_to_is cell e x) ∙ (sym (known_found x (known_to cell e)) ∙ is)))
        (search_real x start);
  }
