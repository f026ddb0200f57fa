-- Where entities are reaped, each base part stays as it is, with its client and what that was shown, until it is gone.
use Rattle.seam_law_clients.proofs.Prelude.{◌≡◌, ℕ, ◌+◌, ◌≤◌, Bool, true, false, cond, eqb, List, [], ◌∷◌, Option, None, Some, refl, sym}
use Rattle.seam_law_clients.proofs.Prelude.{ap, ◌∙◌, ◌++◌, subst, arith, inl, inr, append_assoc, option_map, slice_get, AllByRecursion}
use Rattle.seam_law_clients.proofs.Prelude.{cases_eq, eq-eqb, slice_get-map, happens, IsQuiet, total, Event, OrderView, Call as CallData}
use Rattle.seam_law_clients.proofs.Prelude.{Order, Shown, is_ready, order_or, RealView, WitnessView, Msg, BaseCall, Here, PartView}
use Rattle.seam_law_clients.proofs.Prelude.{ProxyView, holders, NodeView, World, node_steps, node_has_work, with_nodes, reap_ordered_at}
use Rattle.seam_law_clients.proofs.Prelude.{reaps_loaded, comes, slot_at, Frame, here_at, IsInFrame, Has, AtBase, times, has_of, has_none}
use Rattle.seam_law_clients.proofs.Prelude.{entity_flow, BaseMoves, updated, Moves, at_a_cell, at_a_base, base_call_in, update_in}
use Rattle.seam_law_clients.proofs.Prelude.{calls_ordered, PartMoves, rests, refuses, offers, sends, serves, executes, misses, updates}
use Rattle.seam_law_clients.proofs.Prelude.{shows, ends, home_of, HasNoBaseCalls, HasNoPart, RunsTo, real_at, IsBetweenRounds, each}
use Rattle.seam_law_clients.proofs.Prelude.{AreReapable, AreFor, HasSettledPart, HasPartsBetweenRounds, quiet_tasks, slots_kept, came}
use Rattle.seam_law_clients.proofs.Prelude.{Update as UpdateData, event_moves, frame_happens, quiet_home, order_reaps, none_ready}
use Rattle.seam_law_clients.proofs.Prelude.{idle_orders, reaps_framed, reaps_given, part_moves, reaps_part, reaps_tell_none, reached_keep}
use Rattle.seam_law_clients.proofs.Prelude.{slots_lead, Occurs}
use Rattle.std.specs.FinMap as table
use Rattle.seam_node_steps.specs.Prelude.{Update}
use Rattle.seam_call.specs.declared.order.Order.TheVariants as order
use Rattle.seam_law_calls.specs.BaseMoves as move
use Rattle.seam_law_rounds.proofs.Reaping as reaping
use Rattle.seam_law_calls.proofs.BaseQuiet.{no_call_left}
use Rattle.seam_law_calls.proofs.Reaped.{no_call_happens, reaps_without_calls}

-- ---- a part for which nothing waits stays, or ends

data StaysOrEnds (o p : Option PartView) : Type 0 where
  stays : p ≡ o → StaysOrEnds o p
  is_gone : p ≡ None → StaysOrEnds o p

-- no call and no update waits at the part
pub record IsIdle (a : PartView) : Type 0 where
  pub calls : (s : ℕ) → (order_or (table.get a.orders s)).held ≡ []
  pub updates : (x : ProxyView) → a.proxy ≡ Some x → x.updates.held ≡ []

never_ready : (o : OrderView Shown) → o.held ≡ [] → is_ready o ≡ true → ⊥
never_ready o none ready =
    let no : is_ready o ≡ false = ap (λ l. is_ready {T = Shown} (record { next = o.next; held = l })) none in
    cc

module _ (h : Here) (e : ℕ) (s : AtBase) (i : Option Msg) (t : AtBase) (sent : List (ℕ × Msg)) (o : Option PartView)
    (idle : (a : PartView) → o ≡ Some a → IsIdle a) (no_order : calls_ordered s ≡ [])
    (no_call : (c : CallData) → i ≡ Some (BaseCall c) → ⊥) (no_update : (u : UpdateData) → i ≡ Some (Update u) → ⊥) where
  part_idle : (p : PartView) → s.part ≡ Some p → StaysOrEnds o s.part → IsIdle p
  part_idle p at (stays is) = idle p (sym is ∙ at)
  part_idle p at (is_gone none) = absurd (let z = sym none ∙ at in cc)

  kept : t.part ≡ s.part → StaysOrEnds o s.part → StaysOrEnds o t.part
  kept is (stays was) = stays (is ∙ was)
  kept is (is_gone none) = is_gone (is ∙ none)

  stays_after : PartMoves h e s i t sent → StaysOrEnds o s.part → StaysOrEnds o t.part
  stays_after (rests n m l part z) so = kept part so
  stays_after (refuses c n stray is z) so = kept (ap (λ b. b.part) is) so
  stays_after (offers c p q n has may d l after z) so = absurd (no_call c n)
  stays_after (sends c cs n at left part z) so = kept part so
  stays_after (serves c cs p q n at has home may d left after z) so = absurd (let y = sym no_order ∙ at in cc)
  stays_after (executes p d c n has at item l after z) so =
      absurd (none_ready p.orders (part_idle p has so).calls d c at item)
  stays_after (misses u n why l part z) so = kept part so
  stays_after (updates u p x n has is l after z) so = absurd (no_update u n)
  stays_after (shows p x n has is ready l after z) so = absurd (never_ready x.updates ((part_idle p has so).updates x is) ready)
  stays_after (ends os n at l after z) so = is_gone after

-- ---- the order to reap waits, or the part is gone

abbrev reaps_in : AtBase → ℕ
reaps_in b = total order_reaps b.orders

data WaitsOrGone (b : AtBase) : Type 0 where
  waits : 1 ≤ reaps_in b → WaitsOrGone b
  over : b.part ≡ None → WaitsOrGone b

module _ (h : Here) (cells e : ℕ) (s : AtBase) (i : Option Msg) (t : AtBase) (sent : List (ℕ × Msg)) where
  stays_so : (b : AtBase) → t ≡ b → (s.part ≡ None → b.part ≡ None) → reaps_in s ≤ reaps_in b → WaitsOrGone s → WaitsOrGone t
  stays_so b is gone less (waits le) = let same = ap reaps_in is in waits (omega (arith, less, le, same))
  stays_so b is gone less (over at) = over (ap (λ x. x.part) is ∙ gone at)

  taken : (o : Order) (os : List Order) → s.orders ≡ o ∷ os → order_reaps o ≡ 0 → reaps_in s ≤ total order_reaps os
  taken o os at zero = let same = ap (total order_reaps) at in omega (arith, same, zero)

  so_after : BaseMoves h cells e s i t sent → WaitsOrGone s → WaitsOrGone t
  so_after (move.rests n a z) so = stays_so s a (λ g. g) (omega arith) so
  so_after (move.strays m n b a z) so = stays_so s a (λ g. g) (omega arith) so
  so_after (move.reroutes new r n has b a z) so = stays_so _ a (λ g. g) (omega arith) so
  so_after (move.offers c p n own has may a z) so = stays_so _ a (λ gone. absurd (let y = sym gone ∙ has in cc)) (omega arith) so
  so_after (move.updates u n own b a z) so = stays_so _ a (λ gone. ap (λ o. updated o u) gone) (omega arith) so
  so_after (move.orders_call c os r n at own has a z) so = stays_so _ a (λ g. g) (taken (order.Cell c) os at refl) so
  so_after (move.orders_base_call c os n at own b a z) so = stays_so _ a (λ g. g) (taken (order.Base c) os at refl) so
  so_after (move.offers_own c os p n at own b has may a z) so =
      stays_so _ a (λ gone. absurd (let y = sym gone ∙ has in cc)) (taken (order.Base c) os at refl) so
  so_after (move.orders_tick os n at a z) so = stays_so _ a (λ g. g) (taken order.Tick os at refl) so
  so_after (move.orders_reap os r n at has a z) so = over (ap (λ x. x.part) a)
  so_after (move.stuck_order o os n at b a z) so = stays_so s a (λ g. g) (omega arith) so
  so_after (move.executes p o c n has may at item a z) so = stays_so _ a (λ gone. absurd (let y = sym gone ∙ has in cc)) (omega arith) so
  so_after (move.stuck_part p n has v may a z) so = stays_so s a (λ g. g) (omega arith) so
  so_after (move.shows p n has v may a z) so = stays_so _ a (λ gone. absurd (let y = sym gone ∙ has in cc)) (omega arith) so
  so_after (move.stuck_client p n has v may a z) so = stays_so s a (λ g. g) (omega arith) so

-- ---- the phase of reaps

module _ (f : Frame) (u : World) (between : IsBetweenRounds f u) (parts : HasPartsBetweenRounds f u) (es : List ℕ)
    (may : AreReapable u es) where
  abbrev turn : NodeView → NodeView
  turn = each reap_ordered_at es

  abbrev start : World
  start = reaps_loaded u es

  start_is : start ≡ with_nodes u turn
  start_is = reaping.loaded_is f u between es may

  inside : IsInFrame f start
  inside = subst (IsInFrame f) (sym start_is) (reaps_framed f u between.nodes es)

  module _ (e : ℕ) where
    slot_is : (k : ℕ) → (entity_flow e start).slot k ≡ slot_at (has_of e) has_none (option_map turn (slice_get u.nodes k))
    slot_is k = ap (λ w. (entity_flow e w).slot k) start_is ∙ ap (slot_at (has_of e) has_none) (slice_get-map turn u.nodes k)

    part_by : (k : ℕ) (o : Option NodeView) →
        (slot_at (has_of e) has_none (option_map turn o)).base.part ≡ (slot_at (has_of e) has_none o).base.part
    part_by k None = refl
    part_by k (Some s) = reaps_part e es s

    part_is : (k : ℕ) → ((entity_flow e start).slot k).base.part ≡ ((entity_flow e u).slot k).base.part
    part_is k = ap (λ s. s.base.part) (slot_is k) ∙ part_by k (slice_get u.nodes k)

    no_calls : HasNoBaseCalls e start
    no_calls = reaps_without_calls e es u (no_call_left f e u between.nodes between.quiet)

    -- ---- an entity that was there

    module _ (home : ℕ) (r : RealView) (here : real_at e u home ≡ Some r) where
      settled : HasSettledPart f e r.ty u
      settled = parts.parts e home r here

      held_none : (o : Option WitnessView) (x : ProxyView) (version : ℕ) → AreFor o (Some x) version → x.updates.held ≡ []
      held_none None x version are = absurd are
      held_none (Some w) x version are = are.none_held

      its_idle : IsIdle settled.part
      its_idle = record {
        calls = settled.none_held;
        updates = λ x has.
            held_none r.witness x settled.part.version
            (subst (λ y. AreFor r.witness y settled.part.version) has (parts.clients e home r here settled.part settled.here));
      }

      idle_by : (k : ℕ) (a : PartView) → ((entity_flow e u).slot k).base.part ≡ Some a → IsIdle a
      idle_by k a at = elim (cases_eq k (home_of f e)) [
        | inl is ↦
            let same : settled.part ≡ a =
            some_is (sym settled.here ∙ (ap (λ j. ((entity_flow e u).slot j).base.part) (sym is) ∙ at)) in
            subst IsIdle same its_idle
        | inr n ↦ absurd (let z = sym (settled.others k n) ∙ at in cc)
      ]
        where
          some_is : {p q : PartView} → Some p ≡ Some q → p ≡ q
          some_is h = cc

      record AreLeft (w : World) : Type 0 where
        frame : IsInFrame f w
        none : HasNoBaseCalls e w
        each_part : (k : ℕ) → StaysOrEnds ((entity_flow e u).slot k).base.part ((entity_flow e w).slot k).base.part

      left_happens : (w : World) (us : List Event) → RunsTo start us w → (v : Event) → Occurs w v → AreLeft w →
          AreLeft (happens node_steps w v)
      left_happens w us from v o h =
          let g = event_moves f w v o h.frame e in
          let s = (entity_flow e w).slot g.k in
          let t = (entity_flow e (happens node_steps w v)).slot g.k in
          record {
            frame = frame_happens f w v o h.frame;
            none = no_call_happens f e w v o h.frame h.none;
            each_part =
                slots_kept (λ k s. StaysOrEnds ((entity_flow e u).slot k).base.part s.base.part) g h.each_part
                (stays_after (here_at f g.k) e s.base (comes g.input) t.base g.moves.sent ((entity_flow e u).slot g.k).base.part
                (idle_by g.k) (h.none.orders g.k)
                (λ c at. let no = (came (λ a k m. base_call_in m ≡ None) g (BaseCall c) at h.none.letters).1 in cc)
                (λ m at.
                let no = (came (λ a k m. update_in m ≡ None) g (Update m) at
                (reaps_tell_none f u between parts es may us w from e)).1 in cc)
                (part_moves f e g.k s (comes g.input) t g.moves.sent g.moves.moves) (h.each_part g.k));
          }

      module _ (vs : List Event) (v : World) (run : RunsTo start vs v) where
        are_left : AreLeft v
        are_left =
            reached_keep start AreLeft left_happens v vs
            (record { frame = inside; none = no_calls; each_part = λ k. stays (part_is k) }) run

        same_by : (k : ℕ) (p : PartView) → ((entity_flow e v).slot k).base.part ≡ Some p →
            StaysOrEnds ((entity_flow e u).slot k).base.part ((entity_flow e v).slot k).base.part →
            ((entity_flow e u).slot k).base.part ≡ Some p
        same_by k p at (stays is) = sym is ∙ at
        same_by k p at (is_gone none) = absurd (let z = sym none ∙ at in cc)

        -- a part that is there is what it was
        pub part_same : (k : ℕ) (p : PartView) → ((entity_flow e v).slot k).base.part ≡ Some p →
            ((entity_flow e u).slot k).base.part ≡ Some p
        part_same k p at = same_by k p at (are_left.each_part k)

    -- ---- one that is told to be reaped

    moves_so : (k : ℕ) (s : Has) (i : Option Msg) (t : Has) (sent : List (ℕ × Msg)) → Moves f e k s i t sent → WaitsOrGone s.base →
        WaitsOrGone t.base
    moves_so k s i t sent (at_a_cell tree of low m same) so = subst WaitsOrGone (sym same) so
    moves_so k s i t sent (at_a_base high m same) so = so_after (here_at f k) _ e s.base i t.base sent m so

    module _ (home : ℕ) (r : RealView) (here : real_at e u home ≡ Some r) (listed : 1 ≤ times e es) where
      at_home : (k : ℕ) (o : Option NodeView) → slice_get u.nodes k ≡ o → k ≡ home_of f e →
          WaitsOrGone (slot_at (has_of e) has_none (option_map turn o)).base
      at_home k None at is = over refl
      at_home k (Some s) at is =
          let given = reaps_given e f k es s (between.nodes.nodes k s at) (quiet_tasks node_has_work u between.quiet k s at) in
          let many = given.reaps ∙ ap (λ b. cond {A = ℕ} b (times e es) 0) (eq-eqb k (home_of f e) is) in
          waits (omega (arith, listed, many))

      starts_waiting : (k : ℕ) → WaitsOrGone ((entity_flow e start).slot k).base
      starts_waiting k = elim (cases_eq k (home_of f e)) [
        | inl is ↦ subst (λ (s : Has). WaitsOrGone s.base) (sym (slot_is k)) (at_home k (slice_get u.nodes k) refl is)
        | inr n ↦ over (part_is k ∙ (parts.parts e home r here).others k n)
      ]

      module _ (vs : List Event) (v : World) (run : RunsTo start vs v) (quiet : IsQuiet node_has_work v) where
        orders_by : (k : ℕ) (o : Option NodeView) → slice_get v.nodes k ≡ o → (slot_at (has_of e) has_none o).base.orders ≡ []
        orders_by k None at = refl
        orders_by k (Some s) at = idle_orders e s (quiet_tasks node_has_work v quiet k s at)

        gone_by : (k : ℕ) → WaitsOrGone ((entity_flow e v).slot k).base → ((entity_flow e v).slot k).base.part ≡ None
        gone_by k (waits le) =
            let none = ap (total order_reaps) (orders_by k (slice_get v.nodes k) refl) in
            absurd (omega (arith, le, none))
        gone_by k (over is) = is

        pub part_gone : HasNoPart e v
        part_gone k =
            gone_by k (slots_lead f e (λ k s. WaitsOrGone s.base) (λ k s i t sent so m. moves_so k s i t sent m so) start v vs inside
            starts_waiting run k)

  -- ---- all of them

  module _ (vs : List Event) (v : World) (run : RunsTo start vs v) (quiet : IsQuiet node_has_work v) where
    some_times : (e : ℕ) (first later : List ℕ) → 1 ≤ times e (first ++ e ∷ later)
    some_times e [] later =
        let is = ap (λ b. cond {A = ℕ} b (times e later + 1) (times e later)) (eq-eqb e e refl) in
        omega (arith, is)
    some_times e (x ∷ first) later = by (eqb x e) (times e (first ++ e ∷ later)) (some_times e first later)
      where
        by : (b : Bool) (n : ℕ) → 1 ≤ n → 1 ≤ cond {A = ℕ} b (n + 1) n
        by true n h = omega arith
        by false n h = h

    all_gone : (first xs : List ℕ) → es ≡ first ++ xs → AllByRecursion (λ e. holders u e ≡ 1) xs → AllByRecursion (λ e. HasNoPart e v) xs
    all_gone first [] is there = tt
    all_gone first (e ∷ xs) is there =
        let h = quiet_home f u between e there.0 in (
          part_gone e h.node h.real h.here (subst (λ l. 1 ≤ times e l) (sym is) (some_times e first xs)) vs v run quiet,
          all_gone (first ++ e ∷ []) xs (is ∙ sym (append_assoc first (e ∷ []) xs)) there.1,
        )

    pub parts_gone : AllByRecursion (λ e. HasNoPart e v) es
    parts_gone = all_gone [] es refl may.there
