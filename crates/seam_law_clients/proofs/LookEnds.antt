-- The phase of looks from its load to its quiet end: each witness has looked once.
use Rattle.seam_law_clients.proofs.Prelude.{◌≡◌, ℕ, ◌<◌, ◌≤◌, ◌⊎◌, Bool, true, false, cond, eqb, is_some, List, [], ◌∷◌, ◌++◌, length}
use Rattle.seam_law_clients.proofs.Prelude.{Option, None, Some, refl, sym, ap, ◌∙◌, subst, arith, inl, inr, option_map, slice_get}
use Rattle.seam_law_clients.proofs.Prelude.{slice_index_or, AllByRecursion, nat_cmp, eq-eqb, slice_get-map, slice_get_cases, length-map}
use Rattle.seam_law_clients.proofs.Prelude.{IsQuiet, Event, RealView, WitnessView, cell_count, number_of, has_any, BaseView, CellView}
use Rattle.seam_law_clients.proofs.Prelude.{has_witness, witnesses, NodeView, World, node_steps, node_has_work, Cell, Base, order_if}
use Rattle.seam_law_clients.proofs.Prelude.{ordered_at, look_loaded, slot_at, Frame, has_of, has_none, real_in, RunsTo, real_at}
use Rattle.seam_law_clients.proofs.Prelude.{IsBetweenRounds, having_looked, HaveRoomToLook, quiet_links, quiet_tasks, leads_keeps, neither}
use Rattle.seam_law_clients.proofs.Prelude.{none_left, look_framed, some_base, each_found}
use Rattle.std.specs.FinMap as table
use Rattle.seam_call.specs.declared.order.Order.TheVariants as order
use Rattle.seam_law_rounds.proofs.Shape.{many_leads}
use Rattle.seam_law_clients.proofs.Near.{all_filtered}
use Rattle.seam_law_clients.proofs.LookCells.{MayLook, IsMidway, work_is}
use Rattle.seam_law_clients.proofs.LookRuns.{tick_order, unready, CellAt, ordered, told, midway, IsLooking, looking_more}

none_within : (xs : List NodeView) (i : ℕ) → slice_get xs i ≡ None → i < length xs → ⊥
none_within xs i none lt = by (slice_get_cases xs i).1
  where
    by : ((x : NodeView) × (i < length xs) × (slice_get xs i ≡ Some x) × (slice_index_or xs i x ≡ x))
        ⊎ ((length xs ≤ i) × (slice_get xs i ≡ None)) → ⊥
    by (inl p) = let z = sym none ∙ p.2 in cc
    by (inr p) = let le = p.0 in omega (arith, le, lt)

module _ (f : Frame) (u : World) (between : IsBetweenRounds f u) (room : HaveRoomToLook u) where
  -- ---- the witnesses of a cell may look

  witness_of : (o : Option WitnessView) → is_some o ≡ true → (v : WitnessView) × (o ≡ Some v)
  witness_of None h = cc
  witness_of (Some v) h = (v, refl)

  module _ (k : ℕ) (c : CellView) (at : slice_get u.nodes k ≡ Some (Cell c)) where
    may_by : (p : ℕ × RealView) → has_witness p ≡ true → table.find nat_cmp p.0 (table.entries c.reals) ≡ Some p.1 → MayLook c (number_of p)
    may_by p seen found =
        let v = witness_of p.1.witness seen in
        let here = table.get-entries c.reals p.0 ∙ found in
        record {
          real = p.1;
          witness = v.0;
          here = here;
          has = v.1;
          small = room p.0 k p.1 (ap (λ n. real_in (slot_at (has_of p.0) has_none n)) at ∙ here) v.0 v.1 c at;
        }

    pub may : AllByRecursion (MayLook c) (witnesses c)
    may =
        all_filtered number_of (MayLook c) (λ p. table.find nat_cmp p.0 (table.entries c.reals) ≡ Some p.1) has_witness may_by
        (table.entries c.reals) (each_found (table.entries c.reals) (table.entries_sorted c.reals))

  -- ---- the load

  abbrev turned : NodeView → NodeView
  turned = ordered_at tick_order

  node_loaded : (k : ℕ) → slice_get (look_loaded u).nodes k ≡ option_map turned (slice_get u.nodes k)
  node_loaded k = slice_get-map turned u.nodes k

  orders_by : (j : ℕ) (b : BaseView) (t : Bool) → eqb cell_count b.here.me ≡ t → b.orders ≡ [] → b.here.me ≡ j →
      (order_if t b order.Tick).orders ≡ cond (eqb cell_count j) (order.Tick ∷ []) []
  orders_by j b true is none me =
      ap (λ l. l ++ order.Tick ∷ []) none ∙ sym (ap (λ t. cond t (order.Tick ∷ []) []) (ap (eqb cell_count) (sym me) ∙ is))
  orders_by j b false is none me = none ∙ sym (ap (λ t. cond t (order.Tick ∷ []) []) (ap (eqb cell_count) (sym me) ∙ is))

  bases_by : (j : ℕ) (b : BaseView) (o : Option NodeView) → slice_get u.nodes j ≡ o → option_map turned o ≡ Some (Base b) →
      b.orders ≡ cond (eqb cell_count j) (order.Tick ∷ []) []
  bases_by j b None at is = absurd (let z = is in cc)
  bases_by j b (Some (Cell c)) at is = absurd (let z = is in cc)
  bases_by j b (Some (Base a)) at is =
      let none = none_left a.orders (neither (has_any a.orders) _ (quiet_tasks node_has_work u between.quiet j (Base a) at)).0 in
      let me = ap (λ h. h.me) (between.nodes.nodes j (Base a) at).here in
      ap (λ (y : BaseView). y.orders) (base_is is) ∙ orders_by j a (eqb cell_count a.here.me) refl none me
    where
      base_is : {x y : BaseView} → Some (Base x) ≡ Some (Base y) → y ≡ x
      base_is e = cc

  there_by : (j : ℕ) (d : CellView) (o : Option NodeView) → slice_get u.nodes j ≡ o → option_map turned o ≡ Some (Cell d) →
      (c : CellView) × (slice_get u.nodes j ≡ Some (Cell c))
  there_by j d None at is = absurd (let z = is in cc)
  there_by j d (Some (Cell c)) at is = (c, at)
  there_by j d (Some (Base a)) at is = absurd (let z = is in cc)

  starts : IsLooking f u between may (look_loaded u)
  starts = record {
    frame = look_framed f u between.nodes tick_order refl;
    orders = order.Tick ∷ [];
    which = inl refl;
    bases = λ j b at. bases_by j b (slice_get u.nodes j) refl (sym (node_loaded j) ∙ at);
    there = λ j d at. there_by j d (slice_get u.nodes j) refl (sym (node_loaded j) ∙ at);
    cells = λ k c low at.
        ordered refl (node_loaded k ∙ ap (option_map turned) at)
        (λ a. quiet_links node_has_work u between.nodes.sound.square between.quiet a k);
  }

  -- ---- the end

  module _ (vs : List Event) (v : World) (run : RunsTo (look_loaded u) vs v) where
    pub looking : IsLooking f u between may v
    looking =
        leads_keeps node_has_work node_steps (IsLooking f u between may) (looking_more f u between may) (look_loaded u) v vs starts run

    module _ (quiet : IsQuiet node_has_work v) where
      first_is : (o : Option NodeView) → slice_get v.nodes cell_count ≡ o → 1 ≤ f.settings.bases → (b : BaseView) ×
          (slice_get v.nodes cell_count ≡ Some (Base b))
      first_is None at some =
          absurd (none_within v.nodes cell_count at (let many = many_leads (look_loaded u) v vs run
          ∙ (length-map u.nodes turned ∙ between.many) in
          omega (arith, many, some)))
      first_is (Some (Cell c)) at some =
          let low = (looking.frame.nodes cell_count (Cell c) at).low in absurd (omega (arith, low))
      first_is (Some (Base b)) at some = (b, at)

      -- the cell where all have looked
      record IsDone (k : ℕ) (c : CellView) : Type 0 where
        cell : CellView
        there : slice_get v.nodes k ≡ Some (Cell cell)
        all : IsMidway c cell []

      done_by : (k : ℕ) (c : CellView) → slice_get u.nodes k ≡ Some (Cell c) → 1 ≤ f.settings.bases →
          CellAt f u between may k c looking.orders v → IsDone k c
      done_by k c at some (ordered os node empty) =
          let b = first_is (slice_get v.nodes cell_count) refl some in
          let has = looking.bases cell_count b.0 b.1 ∙ ap (λ t. cond t looking.orders []) (eq-eqb cell_count cell_count refl) ∙ os in
          let idle = neither (has_any b.0.orders) _ (quiet_tasks node_has_work v quiet cell_count (Base b.0) b.1) in
          absurd (let z = sym (ap has_any has) ∙ idle.0 in cc)
      done_by k c at some (told os node one others) =
          absurd (let z = sym one ∙ quiet_links node_has_work v looking.frame.sound.square quiet cell_count k in cc)
      done_by k c at some (midway d rest os node m empty) =
          let free = unready c (quiet_tasks node_has_work u between.quiet k (Cell c) at) in
          let none = none_left rest (sym (work_is c free d rest m) ∙ quiet_tasks node_has_work v quiet k (Cell d) node) in
          record { cell = d; there = node; all = subst (IsMidway c d) none m }

      pub looked : (e k : ℕ) (r : RealView) → real_at e u k ≡ Some r → (cell : CellView) →
          slice_get u.nodes k ≡ Some (Cell cell) → real_at e v k ≡ Some (having_looked cell e r)
      looked e k r at cell node =
          let low = (between.nodes.nodes k (Cell cell) node).low in
          let done = done_by k cell node (some_base f u between.nodes e k r at) (looking.cells k cell low node) in
          let was = sym (ap (λ n. real_in (slot_at (has_of e) has_none n)) node) ∙ at in
          ap (λ n. real_in (slot_at (has_of e) has_none n)) done.there ∙ done.all.reals e ∙ ap (option_map (having_looked cell e)) was
