-- The bounds of a round with ticks and of looks, by what there is to look at where they begin.
use Rattle.seam_law_bounds.proofs.Prelude.{[], ◌∷◌, ◌≡◌, ℕ, ◌≤◌, ◌⊎◌, List, length, Option, None, Some, refl, sym, ap, ◌∙◌, subst, arith}
use Rattle.seam_law_bounds.proofs.Prelude.{inl, inr, Bool, true, false, slice_get, AllByRecursion, cases_eq, slice_get-map, quiet_links}
use Rattle.seam_law_bounds.proofs.Prelude.{counted_none, none_counts, Event, Batch, RealView, WitnessView, CellView, NodeView, World}
use Rattle.seam_law_bounds.proofs.Prelude.{node_has_work, Cell, Base, order_if, ordered_at, loaded, look_loaded, reap_ordered_at}
use Rattle.seam_law_bounds.proofs.Prelude.{reaps_loaded, slot_at, letters_of, Frame, mine, has_of, has_none, real_in, real_of, EachReal}
use Rattle.seam_law_bounds.proofs.Prelude.{RunsTo, real_at, IsBetweenRounds, each, AreReapable, MayBeLoaded, LooksFit, Always, is_among}
use Rattle.seam_law_bounds.proofs.Prelude.{LooksAmong, HoldsNothing, entities, cell_orders, base_orders, tick_orders, events_of_round}
use Rattle.seam_law_bounds.proofs.Prelude.{node_there, Somewhere, Nowhere, search_real, IsCalm, look_cell, reals_stay, tick}
use Rattle.seam_law_bounds.proofs.Prelude.{look_makes_none, calm_leads, each_happens}
use Rattle.std.specs.FinMap as table
use Rattle.seam_law_bounds.proofs.ReapPhase as reap
use Rattle.seam_law_rounds.proofs.Looking as looking
use Rattle.seam_law_bounds.proofs.Among.{always_among}
use Rattle.seam_law_bounds.proofs.LookCounts.{looks_fit}
use Rattle.seam_law_bounds.proofs.LookPhase.{frame_start, empty_start}
use Rattle.seam_law_bounds.proofs.RoundPhase.{g}
use Rattle.seam_law_bounds.proofs.RoundPhase as round
use Rattle.seam_law_bounds.proofs.RoundTicks.{sizes_of_round, round_ends}
use Rattle.seam_law_calls.proofs.Keeping.{run_keeps}

-- with more lines allowed it fits as well
more_lines : (bases lines most : ℕ) (ws : ℕ → ℕ) (w : World) → lines ≤ most →
    LooksFit (record { bases = bases; lines = lines; witnesses = ws }) w →
    LooksFit (record { bases = bases; lines = most; witnesses = ws }) w
more_lines bases lines most ws w le h = record {
  lines = λ k c node e es r x is at has. let few = h.lines k c node e es r x is at has in omega (arith, few, le);
  witnesses = h.witnesses;
}

-- ---- a round

module _ (f : Frame) (w : World) (b : Batch) (may : MayBeLoaded f w b) (none : HoldsNothing w)
    (us ws : List ℕ) (many : length us ≤ entities (loaded w b)) (among : LooksAmong us (λ k. ws) (loaded w b)) where
  round_fits : Always (LooksFit (sizes_of_round f w b (length ws))) (loaded w b)
  round_fits v es run =
      more_lines f.settings.bases (length us) (entities (loaded w b)) (λ k. length ws) v many
      (looks_fit us (λ k. ws) f.settings.bases v
      (always_among us ws (g f w b may none) (loaded w b) (round.frame_start f w b may none)
      (round.empty_start f w b may none)
      among v es run))

  pub round_is_bounded : (v : World) (es : List Event) → RunsTo (loaded w b) es v →
      length es ≤ events_of_round f.settings.bases (cell_orders b) (base_orders b) (tick_orders b) (entities (loaded w b)) (length ws)
  round_is_bounded v es run = round_ends f w b may none (length ws) round_fits v es run

-- ---- looks

-- an entity that is nowhere stays so
no_real_then : (f : Frame) (u : World) → IsBetweenRounds f u → (v : World) (vs : List Event) → RunsTo (look_loaded u) vs v → (e : ℕ) →
    Nowhere e u → (k : ℕ) (q : RealView) → real_at e v k ≡ Some q → ⊥
no_real_then f u between v vs run e n k q at =
    let none = none_counts u e (record {
      slots = n;
      mail = λ x y.
          ap (λ l. letters_of real_of (letters_of (mine e) l)) (quiet_links node_has_work u between.nodes.sound.square between.quiet x y);
    }) in
    let zero = look_makes_none f u between vs v run e none in
    let z = sym ((counted_none v e zero).slots k) ∙ at in
    cc

-- a real that an entity's flow shows is in the cell
pub in_cell : (w : World) (e k : ℕ) (r : RealView) → real_at e w k ≡ Some r →
    (c : CellView) × (slice_get w.nodes k ≡ Some (Cell c)) × (table.get c.reals e ≡ Some r)
in_cell w e k r at = by (slice_get w.nodes k) refl at
  where
    by : (o : Option NodeView) → slice_get w.nodes k ≡ o → real_in (slot_at (has_of e) has_none o) ≡ Some r →
        (c : CellView) × (slice_get w.nodes k ≡ Some (Cell c)) × (table.get c.reals e ≡ Some r)
    by None node is = cc
    by (Some (Base b)) node is = cc
    by (Some (Cell c)) node is = (c, node, is)

abbrev HasNoWitness : RealView → Type 0
HasNoWitness r = r.witness ≡ None

module _ (f : Frame) (u : World) (between : IsBetweenRounds f u) (none : HoldsNothing u) (us : List ℕ) (ws : ℕ → List ℕ)
    (among : LooksAmong us ws u) where
  abbrev start : World
  start = look_loaded u

  -- a tick order changes no cell
  cell_same : (k : ℕ) (c : CellView) → slice_get start.nodes k ≡ Some (Cell c) → slice_get u.nodes k ≡ Some (Cell c)
  cell_same k c at =
      let was =
      node_there (slice_get u.nodes k) (ordered_at tick) (Cell c) (sym (slice_get-map (ordered_at tick) u.nodes k) ∙ at) in
      was.1 ∙ ap Some (same_cell was.0 was.2)
    where
      same_cell : (s : NodeView) → ordered_at tick s ≡ Cell c → s ≡ Cell c
      same_cell (Cell d) h = h
      same_cell (Base b) h = by _ h
        where
          by : (d : Bool) → Base (order_if d b tick.1) ≡ Cell c → Base b ≡ Cell c
          by true h = cc
          by false h = cc

  among_start : LooksAmong us (λ k. us) start
  among_start = record {
    reals = λ k c at e r there. among.reals k c (cell_same k c at) e r there;
    copies = λ k c at e x there. among.copies k c (cell_same k c at) e x there;
    views = λ k c at e r x there has. among.views k c (cell_same k c at) e r x there has;
    witnesses = λ k c at e r x there has. among.reals k c (cell_same k c at) e r there;
  }

  stay : (e k : ℕ) → real_at e start k ≡ real_at e u k
  stay e k = reals_stay e (ordered_at tick) (look_cell e tick) u k

  -- ---- an entity without a witness gets none

  module _ (e home : ℕ) (r : RealView) (here : real_at e u home ≡ Some r) where
    unseeing_start : HasNoWitness r → EachReal e HasNoWitness start
    unseeing_start no_one = record {
      cells = λ k q at. by k q at (cases_eq k home);
      hands = λ a k.
          subst (AllByRecursion (λ m. (q : RealView) → real_of m ≡ Some q → HasNoWitness q))
          (sym (ap (letters_of (mine e)) (empty_start f u between none a k))) tt;
    }
      where
        by : (k : ℕ) (q : RealView) → real_at e start k ≡ Some q → (k ≡ home) ⊎ (k ≡ home → ⊥) → HasNoWitness q
        by k q at (inl is) =
            let both = sym at ∙ (stay e k ∙ (ap (λ j. real_at e u j) is ∙ here)) in
            let same : r ≡ q = cc in
            subst HasNoWitness same no_one
        by k q at (inr n) =
            absurd (let z = sym (stay e k ∙ (between.settled e home r here).others k n) ∙ at in cc)

    module _ (v : World) (vs : List Event) (run : RunsTo start vs v) (k : ℕ) (q : RealView) (x : WitnessView)
        (at : real_at e v k ≡ Some q) (has : q.witness ≡ Some x) where
      calm : IsCalm f e home r u false v
      calm =
          calm_leads f between.frame u between e home r here false (looking.small f u between r) start v vs
          (looking.calm f u between e home r here) run

      was_seeing : (o : Option WitnessView) → r.witness ≡ o → (y : WitnessView) × (r.witness ≡ Some y)
      was_seeing (Some y) is = (y, is)
      was_seeing None is =
          let then =
          run_keeps f (EachReal e HasNoWitness) (λ w y o q all. each_happens HasNoWitness (λ a q same is. same ∙ is) f e w y o q
          (λ k n a q z z2 shown at wit wit2 sum is. absurd (let no = sym wit ∙ is in cc)) all) start v vs (frame_start f u between none)
          (unseeing_start is) run in
          absurd (let z = sym (then.cells k q at) ∙ has in cc)

      is_home : k ≡ home
      is_home = ((calm.nodes k).real q at).0

      seeing_among : is_among (ws k) e ≡ true
      seeing_among =
          let y = was_seeing r.witness refl in
          let cell = in_cell u e home r here in
          subst (λ j. is_among (ws j) e ≡ true) (sym is_home) (among.witnesses home cell.0 cell.1 e r y.0 cell.2 y.1)

  among_then : (v : World) (vs : List Event) (run : RunsTo start vs v) (k e : ℕ) (q : RealView) (x : WitnessView) → real_at e v k ≡ Some q →
      q.witness ≡ Some x → Somewhere e u ⊎ Nowhere e u → is_among (ws k) e ≡ true
  among_then v vs run k e q x at has (inl p) = seeing_among e p.0 p.1 p.2 v vs run k q x at has
  among_then v vs run k e q x at has (inr n) = absurd (gone_by n)
    where
      gone_by : Nowhere e u → ⊥
      gone_by n = no_real_then f u between v vs run e n k q at

  pub looks_among : Always (LooksAmong us ws) start
  looks_among v vs run =
      let views = always_among us us f start (frame_start f u between none) (empty_start f u between none) among_start v vs run in
      record {
        reals = views.reals;
        copies = views.copies;
        views = views.views;
        witnesses = λ k c at e r x there has.
            among_then v vs run k e r x (ap (λ o. real_in (slot_at (has_of e) has_none o)) at ∙ there) has (search_real e u);
      }

-- ---- reaps bring no more

reaps_same : (es : List ℕ) (c : CellView) (s : NodeView) → each reap_ordered_at es s ≡ Cell c → s ≡ Cell c
reaps_same [] c s h = h
reaps_same (e ∷ es) c (Cell d) h = reaps_same es c (Cell d) h
reaps_same (e ∷ es) c (Base b) h = absurd (no_cell (reaps_same es c (reap_ordered_at e (Base b)) h))
  where
    no_cell : reap_ordered_at e (Base b) ≡ Cell c → ⊥
    no_cell is = cc

module _ (f : Frame) (u : World) (between : IsBetweenRounds f u) (none : HoldsNothing u) (es : List ℕ) (may : AreReapable u es)
    (us ws : List ℕ) (among : LooksAmong us (λ k. ws) u) where
  reaped_cell : (k : ℕ) (c : CellView) → slice_get (reaps_loaded u es).nodes k ≡ Some (Cell c) → slice_get u.nodes k ≡ Some (Cell c)
  reaped_cell k c at =
      let now = sym (ap (λ v. slice_get v.nodes k) (reap.loaded_is f u between none es may)) ∙ at in
      let was =
      node_there (slice_get u.nodes k) (each reap_ordered_at es) (Cell c) (sym (slice_get-map (each reap_ordered_at es) u.nodes k) ∙ now) in
      was.1 ∙ ap Some (reaps_same es c was.0 was.2)

  reaped_among : LooksAmong us (λ k. ws) (reaps_loaded u es)
  reaped_among = record {
    reals = λ k c at e r there. among.reals k c (reaped_cell k c at) e r there;
    copies = λ k c at e x there. among.copies k c (reaped_cell k c at) e x there;
    views = λ k c at e r x there has. among.views k c (reaped_cell k c at) e r x there has;
    witnesses = λ k c at e r x there has. among.witnesses k c (reaped_cell k c at) e r x there has;
  }

  pub reaps_always_among : Always (LooksAmong us (λ k. ws)) (reaps_loaded u es)
  reaps_always_among =
      always_among us ws f (reaps_loaded u es) (reap.frame_loaded f u between none es may) (reap.empty_start f u between none es may)
      reaped_among
