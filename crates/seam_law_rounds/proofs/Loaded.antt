-- The reals of a loaded world: those that were there, and those that the batch created. Each is settled in it.
use Rattle.seam_law_rounds.proofs.Prelude.{◌≡◌, ℕ, ◌+◌, ◌^◌, ◌<◌, ◌≤◌, Bool, false, cond, List, [], ◌∷◌, ◌++◌, length, Option, None, Some}
use Rattle.seam_law_rounds.proofs.Prelude.{refl, sym, ap, ◌∙◌, subst, arith, inl, inr, ◌||◌, option_map, slice_get, AllByRecursion, nat_cmp}
use Rattle.seam_law_rounds.proofs.Prelude.{cases_eq, eq-eqb, ne_eqb, append_assoc, slice_get-map, slice_get_cases, leaf_at, cells_of, link}
use Rattle.seam_law_rounds.proofs.Prelude.{Create, Batch, order_or, RealView, WitnessView, Msg, has_any, cell_count, created, real_begins}
use Rattle.seam_law_rounds.proofs.Prelude.{holders, NodeView, World, node_has_work, Cell, Base, loaded, Flow, slot_at, letters_of, Frame}
use Rattle.seam_law_rounds.proofs.Prelude.{here_at, Has, mine, has_of, has_none, entity_flow, RealFits, real_in, real_of, reaped_by_order}
use Rattle.seam_law_rounds.proofs.Prelude.{HasNoReaps, real_at, next_from, numbers_of, IsSettled, MayBeMade, framed, node_loaded, MayBegin}
use Rattle.seam_law_rounds.proofs.Prelude.{leaf_is_cell, quiet_links, quiet_tasks, counted_none, none_counts, slots}
use Rattle.std.specs.FinMap as table
use Rattle.seam_law_rounds.proofs.Loading.{loaded_is}
use Rattle.seam_law_rounds.proofs.Staying.{Kept, Becomes, IsRouted, node_becomes, node_keeps, routed}
use Rattle.seam_node_steps.proofs.Gone.{others_without}
use Rattle.seam_law_rounds.specs.Between.{KeepsRoute, KeepsRoutes}
use Rattle.seam_law_rounds.proofs.Making.{AreOthers, Creation, nowhere, once, creation_of, middle, Made, until, node_made, node_after}
use Rattle.seam_law_rounds.proofs.Making.{made_fits}
use Rattle.seam_law_rounds.proofs.Ready.{one_holder, quiet_home}

kept_none : (o p : Option RealView) → Kept real_begins o p → o ≡ None → p ≡ None
kept_none None p k is = k
kept_none (Some r) p k is = absurd (let z = is in cc)

pub kept_some : (o p : Option RealView) → Kept real_begins o p → (r : RealView) → o ≡ Some r →
    (x : Option WitnessView) × (p ≡ Some (record (real_begins r) { witness = x }))
kept_some None p k r is = absurd (let z = is in cc)
kept_some (Some q) p k r is =
    let same : q ≡ r = cc in
    subst (λ y. (x : Option WitnessView) × (p ≡ Some (record (real_begins y) { witness = x }))) same k

-- a real that is there after a load was there before
kept_from : (o p : Option RealView) → Kept real_begins o p → (r : RealView) → p ≡ Some r → (q : RealView) × (o ≡ Some q)
kept_from None p k r is = absurd (let z = sym k ∙ is in cc)
kept_from (Some q) p k r is = (q, refl)

pub no_items : {A : Type 0} (xs : List A) (b : Bool) → (has_any xs || b) ≡ false → xs ≡ []
no_items [] b h = refl
no_items (x ∷ xs) b h = cc

-- a node without a task has no reap
idle_spares : (e : ℕ) (s : NodeView) → node_has_work s ≡ false → HasNoReaps (has_of e s)
idle_spares e (Cell c) h = tt
idle_spares e (Base n) h = subst (λ os. HasNoReaps (has_of e (Base (record n { orders = os })))) (sym (no_items n.orders _ h)) tt

module _ (w : World) (b : Batch) (e : ℕ) where
  pub slot_is : (k : ℕ) → (entity_flow e (loaded w b)).slot k
      ≡ slot_at (has_of e) has_none (option_map (node_loaded b) (slice_get w.nodes k))
  slot_is k =
      ap (λ v. (entity_flow e v).slot k) (loaded_is w b)
      ∙ ap (slot_at (has_of e) has_none) (slice_get-map (node_loaded b) w.nodes k)

  -- an entity that is not created
  module _ (spares : AllByRecursion (λ o. reaped_by_order o.1 ≡ None) b.orders) (others : AreOthers e b.creates) where
    abbrev SlotKeeps : Option NodeView → Type 0
    SlotKeeps None = Unit {0}
    SlotKeeps (Some s) = IsRouted e s

    slot_by : (o : Option NodeView) → Becomes e (SlotKeeps o) (slot_at (has_of e) has_none o)
        (slot_at (has_of e) has_none (option_map (node_loaded b) o))
    slot_by None = record { real = refl; next = refl; route = λ keeps. refl; spared = λ h. h }
    slot_by (Some s) = node_becomes e b others spares s

    pub slot_becomes : (k : ℕ) → Becomes e (SlotKeeps (slice_get w.nodes k)) ((entity_flow e w).slot k)
        ((entity_flow e (loaded w b)).slot k)
    slot_becomes k =
        subst (Becomes e (SlotKeeps (slice_get w.nodes k)) ((entity_flow e w).slot k)) (sym (slot_is k)) (slot_by (slice_get w.nodes k))

    -- where no base node is to forget the route
    keeps_by : KeepsRoutes e w → (k : ℕ) (o : Option NodeView) → slice_get w.nodes k ≡ o → SlotKeeps o
    keeps_by kept k None at = tt
    keeps_by kept k (Some (Cell c)) at = tt
    keeps_by kept k (Some (Base n)) at = others_without e n.gone n.routes (kept k (Base n) at)

    pub slot_routed : KeepsRoutes e w → (k : ℕ) → Becomes e (Unit {0}) ((entity_flow e w).slot k) ((entity_flow e (loaded w b)).slot k)
    slot_routed kept k = routed e (keeps_by kept k (slice_get w.nodes k) refl) (slot_becomes k)

    -- its reals were there
    pub real_was : (k : ℕ) (r : RealView) → real_at e (loaded w b) k ≡ Some r →
        (q : RealView) × (x : Option WitnessView) × (real_at e w k ≡ Some q) × (record (real_begins q) { witness = x } ≡ r)
    real_was k r here =
        let was = (slot_becomes k).real in
        let o = real_at e w k in
        let p = real_at e (loaded w b) k in
        let q = kept_from o p was r here in
        let x = kept_some o p was q.0 q.1 in
        (q.0, x.0, q.1, (let z = sym x.1 ∙ here in cc))

-- a loaded world forgets no route
pub keeps_loaded : (w : World) (b : Batch) (e : ℕ) → KeepsRoutes e (loaded w b)
keeps_loaded w b e k t at =
    by (slice_get w.nodes k) (sym (ap (λ v. slice_get v.nodes k) (loaded_is w b) ∙ slice_get-map (node_loaded b) w.nodes k) ∙ at)
  where
    by : (o : Option NodeView) → option_map (node_loaded b) o ≡ Some t → KeepsRoute e t
    by None is = absurd (let z = is in cc)
    by (Some s) is =
        let same : node_loaded b s ≡ t = let z = is in cc in
        subst (KeepsRoute e) same (node_keeps e b s)

module _ (f : Frame) (w : World) (b : Batch) (begin : MayBegin f w b) (e : ℕ) where
  abbrev before : Flow Has Msg
  before = entity_flow e w

  abbrev pub after : Flow Has Msg
  after = entity_flow e (loaded w b)

  pub no_mail : (x y : ℕ) → after.mail x y ≡ []
  no_mail x y =
      ap (λ v. letters_of (mine e) (link v.rows x y)) (loaded_is w b)
      ∙ ap (letters_of (mine e)) (quiet_links node_has_work w begin.between.nodes.sound.square begin.between.quiet x y)

  -- ---- where a real comes from

  -- the real r of cell `home`, of which node k had g k before the orders were given
  record Origin (home : ℕ) (r : RealView) (g : ℕ → Has) : Type 0 where
    becomes : (k : ℕ) → Becomes e (Unit {0}) (g k) (after.slot k)
    here : real_in (g home) ≡ Some r
    others : (j : ℕ) → (j ≡ home → ⊥) → real_in (g j) ≡ None
    type : r.ty < length f.defs
    fit : RealFits (framed f b) e r.ty home r
    public : r.public ≤ r.version
    routes : (k : ℕ) → cell_count ≤ k → k < cell_count + f.settings.bases →
        (g k).base.route ≡ Some (record { cell = home; generation = r.generation })
    none_held : (s : ℕ) → (order_or (table.get r.orders s)).held ≡ []
    from_one : (s : ℕ) → 1 ≤ next_from s r
    spared : (k : ℕ) → HasNoReaps (g k)
    small : numbers_of r < 2 ^ 61

  -- what a loaded world has of a real
  pub record Loaded (home : ℕ) (r : RealView) : Type 0 where
    pub settled : IsSettled (framed f b) e home r (loaded w b)
    pub idle : r.done ≡ []
    pub nexts : (k : ℕ) → (after.slot k).cell.slot.next ≡ None
    pub spared : (k : ℕ) → HasNoReaps (after.slot k)
    pub small : numbers_of r < 2 ^ 61

  module _ (home : ℕ) (r : RealView) (g : ℕ → Has) (o : Origin home r g) where
    kept : (x : Option WitnessView) × (real_in (after.slot home) ≡ Some (record (real_begins r) { witness = x }))
    kept = kept_some (real_in (g home)) (real_in (after.slot home)) (o.becomes home).real r o.here

    abbrev real : RealView
    real = record (real_begins r) { witness = kept.0 }

    there : Loaded home real
    there = record {
      settled = record {
        here = kept.1;
        others = λ j n. kept_none (real_in (g j)) (real_in (after.slot j)) (o.becomes j).real (o.others j n);
        type = o.type;
        fits =
            let q = o.fit in
            record {
              entity = q.entity;
              type = q.type;
              values = q.values;
              inside = q.inside;
              held = q.held;
              home = q.home;
              haunts = q.haunts;
            };
        public = o.public;
        routes = λ k high low. (o.becomes k).route tt ∙ o.routes k high low;
        none_held = o.none_held;
        from_one = o.from_one;
      };
      idle = refl;
      nexts = λ k. (o.becomes k).next;
      spared = λ k. (o.becomes k).spared (o.spared k);
      small = o.small;
    }

    only : (k : ℕ) (q : RealView) → real_in (after.slot k) ≡ Some q → Loaded k q
    only k q at = elim (cases_eq k home) [
      | inl is ↦
          let same : real ≡ q = let z = sym kept.1 ∙ ap (λ j. real_in (after.slot j)) (sym is) ∙ at in cc in
          subst (λ j. Loaded j q) (sym is) (subst (Loaded home) same there)
      | inr n ↦ absurd (let z = sym (there.settled.others k n) ∙ at in cc)
    ]

    counted : holders (loaded w b) e ≡ 1
    counted = one_holder (framed f b) (loaded w b) e home real there.settled no_mail

  -- ---- one that was there

  was_there : AreOthers e b.creates → (home : ℕ) (r : RealView) → real_in (before.slot home) ≡ Some r → Origin home r before.slot
  was_there others home r here =
      let q = begin.between.settled e home r here in
      let more = begin.fits.cells in
      record {
        becomes = slot_routed w b e begin.fits.spares others (begin.between.kept e home r here);
        here = here;
        others = q.others;
        type = q.type;
        fit = record {
          entity = q.fits.entity;
          type = q.fits.type;
          values = q.fits.values;
          inside = q.fits.inside;
          held = q.fits.held;
          home = let low = q.fits.home in omega (arith, low, more);
          haunts = λ j h. let low = q.fits.haunts j h in omega (arith, low, more);
        };
        public = q.public;
        routes = q.routes;
        none_held = q.none_held;
        from_one = q.from_one;
        spared = slots (λ j h. HasNoReaps h) e w
            (λ j s at. idle_spares e s (quiet_tasks node_has_work w begin.between.quiet j s at)) (λ j. tt);
        small = begin.fits.small e home r here;
      }

  -- one that was there is not created
  others_of : (xs : List Create) → AllByRecursion (MayBeMade f w) xs → (home : ℕ) (r : RealView) →
      real_in (before.slot home) ≡ Some r → AreOthers e xs
  others_of [] h home r here = tt
  others_of (x ∷ xs) h home r here = (λ is. differs x is (h.0.new home), others_of xs h.1 home r here)
    where
      differs : (x : Create) → x.entity ≡ e → (entity_flow x.entity w).slot home ≡ has_none → ⊥
      differs x is none =
          let z = sym (ap real_in (sym (ap (λ q. (entity_flow q w).slot home) is) ∙ none)) ∙ here in
          cc

-- ---- one that is created

module _ (f : Frame) (w : World) (b : Batch) (begin : MayBegin f w b) (first : List Create) (x : Create)
    (later : List Create) (is : b.creates ≡ first ++ x ∷ later) (others : AreOthers x.entity first) (more : AreOthers x.entity later) where
  abbrev leaf : ℕ
  leaf = leaf_at b.tree x.pos

  abbrev had : ℕ → Option NodeView → Has
  had k o =
      slot_at (has_of x.entity) has_none
      (option_map (until f b begin.fits.tree x k first later is others more begin.fits.spares) o)

  may : MayBeMade f w x
  may = middle (MayBeMade f w) first x later (subst (AllByRecursion (MayBeMade f w)) is begin.fits.creates)

  made_there : (k : ℕ) (s : NodeView) → slice_get w.nodes k ≡ Some s → Made f b x k (had k (Some s))
  made_there k s at =
      node_made f b begin.fits.tree x k first later is others more begin.fits.spares s
      (begin.between.nodes.sound.states k s at) (begin.between.nodes.nodes k s at)
      (sym (ap (slot_at (has_of x.entity) has_none) at) ∙ may.new k)

  after_by : (k : ℕ) (o : Option NodeView) → Becomes x.entity (Unit {0}) (had k o)
      (slot_at (has_of x.entity) has_none (option_map (node_loaded b) o))
  after_by k None = record { real = refl; next = refl; route = λ keeps. refl; spared = λ h. h }
  after_by k (Some s) = node_after f b begin.fits.tree x k first later is others more begin.fits.spares s

  leaf_low : leaf < cells_of b.tree
  leaf_low = leaf_is_cell b.tree x.pos

  abbrev made : RealView
  made = created (here_at f leaf) x.entity x.ty x.pos

  node_by : (k : ℕ) (o : Option NodeView) → slice_get w.nodes k ≡ o → k < cell_count + f.settings.bases → (o ≡ None → ⊥)
  node_by k o at low none =
      let many = begin.between.many in
      elim (slice_get_cases w.nodes k).1 [
        | inl p ↦ absurd (let z = sym (at ∙ none) ∙ p.2 in cc)
        | inr p ↦ let past = p.0 in absurd (omega (arith, past, many, low))
      ]

  here_by : (o : Option NodeView) → slice_get w.nodes leaf ≡ o → real_in (had leaf o) ≡ Some made
  here_by None at =
      let low = leaf_low in
      let most = begin.fits.tree.cells_to in
      absurd (node_by leaf None at (omega (arith, low, most)) refl)
  here_by (Some s) at = (made_there leaf s at).real ∙ ap (λ c. cond c (Some made) None) (eq-eqb leaf leaf refl)

  other_by : (j : ℕ) (o : Option NodeView) → slice_get w.nodes j ≡ o → (j ≡ leaf → ⊥) → real_in (had j o) ≡ None
  other_by j None at n = refl
  other_by j (Some s) at n =
      (made_there j s at).real
      ∙ ap (λ c. cond c (Some (created (here_at f j) x.entity x.ty x.pos)) None) (ne_eqb leaf j (λ e. n (sym e)))

  routes_by : (k : ℕ) (o : Option NodeView) → slice_get w.nodes k ≡ o → cell_count ≤ k → k < cell_count + f.settings.bases →
      (had k o).base.route ≡ Some (record { cell = leaf; generation = 0 })
  routes_by k None at high low = absurd (node_by k None at low refl)
  routes_by k (Some s) at high low = (made_there k s at).route high

  spared_by : (k : ℕ) (o : Option NodeView) → slice_get w.nodes k ≡ o → HasNoReaps (had k o)
  spared_by k None at = tt
  spared_by k (Some s) at = (made_there k s at).spared

  fresh : (s : ℕ) → order_or (table.get made.orders s) ≡ record { next = 1; held = [] }
  fresh s = ap order_or (table.get-empty nat_cmp s)

  was_made : Origin f w b begin x.entity leaf made (λ k. had k (slice_get w.nodes k))
  was_made = record {
    becomes = λ k.
        subst (Becomes x.entity (Unit {0}) (had k (slice_get w.nodes k))) (sym (slot_is w b x.entity k)) (after_by k (slice_get w.nodes k));
    here = here_by (slice_get w.nodes leaf) refl;
    others = λ j n. other_by j (slice_get w.nodes j) refl n;
    type = may.type;
    fit = made_fits f begin.between.frame.defs b w x leaf may leaf_low;
    public = omega arith;
    routes = λ k. routes_by k (slice_get w.nodes k) refl;
    none_held = λ s. ap (λ o. o.held) (fresh s);
    from_one = λ s. let one = ap (λ o. o.next) (fresh s) in omega (arith, one);
    spared = λ k. spared_by k (slice_get w.nodes k) refl;
    small = omega arith;
  }

-- ---- each

module _ (f : Frame) (w : World) (b : Batch) (begin : MayBegin f w b) where
  loaded_by : (e k : ℕ) (r : RealView) → Creation e b.creates → real_at e (loaded w b) k ≡ Some r → Loaded f w b begin e k r
  loaded_by e k r (nowhere others) here =
      let q = real_was w b e begin.fits.spares others k r here in
      only f w b begin e k q.0 (entity_flow e w).slot (was_there f w b begin e others k q.0 q.2) k r here
  loaded_by e k r (once first x later is at others more) here =
      subst (λ e. Loaded f w b begin e k r) at
      (only f w b begin x.entity (leaf_at b.tree x.pos) _ _ (was_made f w b begin first x later is
      (subst (λ e. AreOthers e first) (sym at) others) (subst (λ e. AreOthers e later) (sym at) more)) k r
      (subst (λ e. real_at e (loaded w b) k ≡ Some r) (sym at) here))

  -- a real of the loaded world
  pub real_loaded : (e k : ℕ) (r : RealView) → real_at e (loaded w b) k ≡ Some r → Loaded f w b begin e k r
  real_loaded e k r here = loaded_by e k r (creation_of e b.creates begin.fits.once) here

  -- ---- holders

  pub holds_kept : (e : ℕ) → holders w e ≡ 1 → holders (loaded w b) e ≡ 1
  holds_kept e one =
      let h = quiet_home f w begin.between e one in
      let others = others_of f w b begin e b.creates begin.fits.creates h.node h.real h.here in
      counted f w b begin e h.node h.real (entity_flow e w).slot (was_there f w b begin e others h.node h.real h.here)

  made_one : (x : Create) (first later : List Create) → b.creates ≡ first ++ x ∷ later → Creation x.entity b.creates →
      holders (loaded w b) x.entity ≡ 1
  made_one x first later is (nowhere others) =
      absurd (middle (λ y. y.entity ≡ x.entity → ⊥) first x later (subst (AreOthers x.entity) is others) refl)
  made_one x first later is (once before y rest at same others more) =
      subst (λ e. holders (loaded w b) e ≡ 1) same
      (counted f w b begin y.entity (leaf_at b.tree y.pos) _ _ (was_made f w b begin before y rest at
      (subst (λ e. AreOthers e before) (sym same) others) (subst (λ e. AreOthers e rest) (sym same) more)))

  made_by : (first xs : List Create) → b.creates ≡ first ++ xs → AllByRecursion (λ x. holders (loaded w b) x.entity ≡ 1) xs
  made_by first [] is = tt
  made_by first (x ∷ xs) is = (
    made_one x first xs is (creation_of x.entity b.creates begin.fits.once),
    made_by (first ++ x ∷ []) xs (is ∙ sym (append_assoc first (x ∷ []) xs)),
  )

  pub holds_made : AllByRecursion (λ x. holders (loaded w b) x.entity ≡ 1) b.creates
  holds_made = made_by [] b.creates refl

  pub holds_none : (e : ℕ) → holders w e ≡ 0 → AreOthers e b.creates → holders (loaded w b) e ≡ 0
  holds_none e zero others =
      let none = counted_none w e zero in
      let now = entity_flow e (loaded w b) in
      none_counts (loaded w b) e (record {
        slots = λ j. kept_none (real_at e w j) (real_in (now.slot j))
            (slot_becomes w b e begin.fits.spares others j).real (none.slots j);
        mail = λ x y. ap (letters_of real_of) (no_mail f w b begin e x y);
      })
