-- A base part that no one calls and no one reaps stays as it is, but for its client.
use Rattle.seam_law_rounds.proofs.Prelude.{◌≡◌, ℕ, List, [], ◌∷◌, Option, None, Some, refl, sym, ap, ◌∙◌, subst, arith, inl, inr}
use Rattle.seam_law_rounds.proofs.Prelude.{option_map, slice_get, AllByRecursion, cases_eq, slice_get-map, happens, total, Event}
use Rattle.seam_law_rounds.proofs.Prelude.{Call as CallData, Order, order_or, Msg, BaseCall, Here, PartView, ProxyView, NodeView, World}
use Rattle.seam_law_rounds.proofs.Prelude.{node_steps, node_has_work, with_nodes, comes, slot_at, letters_of, Frame, here_at, IsInFrame}
use Rattle.seam_law_rounds.proofs.Prelude.{Has, AtBase, mine, has_of, has_none, entity_flow, reaped_by, reaped_by_order, HasNoReaps}
use Rattle.seam_law_rounds.proofs.Prelude.{IsSpared, base_call_in, base_call_of, calls_ordered, PartMoves, rests, refuses, offers, sends}
use Rattle.seam_law_rounds.proofs.Prelude.{serves, executes, misses, updates, shows, ends, home_of, HasNoBaseCalls, RunsTo, IsBetweenRounds}
use Rattle.seam_law_rounds.proofs.Prelude.{HasSettledPart, quiet_links, slots_kept, came, event_moves, frame_happens, spared_happens}
use Rattle.seam_law_rounds.proofs.Prelude.{unordered, EachKeeps, RunsKeep, runs_keep}
use Rattle.std.specs.FinMap as table
use Rattle.seam_call.specs.declared.order.Order.TheVariants as order
use Rattle.seam_law_rounds.proofs.Calm.{order_reaps, IsCalmOrder}
use Rattle.seam_law_rounds.proofs.CalmMoves.{none_ready}
use Rattle.seam_law_rounds.proofs.Starting.{Given}
use Rattle.seam_law_calls.proofs.PartSteps.{part_moves}
use Rattle.seam_law_calls.proofs.Reaped.{no_call_happens}
use Rattle.seam_law_rounds.proofs.PartLoads.{SamePart, same_part, part_at}
use Rattle.seam_law_rounds.proofs.PartsLoaded.{same_none, same_some}

-- ---- a move

abbrev HoldsNone : PartView → Type 0
HoldsNone p = (s : ℕ) → (order_or (table.get p.orders s)).held ≡ []

abbrev with_client : PartView → Option ProxyView → PartView
with_client p x = record p { proxy = x }

changed : (o s t : Option PartView) (p : PartView) (x : Option ProxyView) → s ≡ Some p → t ≡ Some (with_client p x) → SamePart o s →
    SamePart o t
changed None s t p x has is k = absurd (let z = sym k ∙ has in cc)
changed (Some a) s t p x has is k =
    let both : Some (with_client a k.0) ≡ Some p = sym k.1 ∙ has in
    let same : with_client a k.0 ≡ p = cc in
    (x, is ∙ ap (λ q. Some (with_client q x)) (sym same))

holds_none : (o s : Option PartView) (p : PartView) → ((a : PartView) → o ≡ Some a → HoldsNone a) → s ≡ Some p → SamePart o s → HoldsNone p
holds_none None s p idle has k = absurd (let z = sym k ∙ has in cc)
holds_none (Some a) s p idle has k =
    let both : Some (with_client a k.0) ≡ Some p = sym k.1 ∙ has in
    let same : with_client a k.0 ≡ p = cc in
    subst HoldsNone same (idle a refl)

module _ (h : Here) (e : ℕ) (s : AtBase) (i : Option Msg) (t : AtBase) (sent : List (ℕ × Msg)) (o : Option PartView)
    (idle : (a : PartView) → o ≡ Some a → HoldsNone a) (no_order : calls_ordered s ≡ [])
    (no_letter : (c : CallData) → i ≡ Some (BaseCall c) → ⊥) (no_reap : (os : List Order) → s.orders ≡ order.Reap e ∷ os → ⊥)
    (k : SamePart o s.part) where
  kept : t.part ≡ s.part → SamePart o t.part
  kept is = subst (SamePart o) (sym is) k

  still_after : PartMoves h e s i t sent → SamePart o t.part
  still_after (rests n m l part z) = kept part
  still_after (refuses c n stray is z) = kept (ap (λ b. b.part) is)
  still_after (offers c p q n has may d l after z) = absurd (no_letter c n)
  still_after (sends c cs n at left part z) = kept part
  still_after (serves c cs p q n at has home may d left after z) = absurd (let y = sym no_order ∙ at in cc)
  still_after (executes p d c n has at item l after z) =
      absurd (none_ready p.orders (holds_none o s.part p idle has k) d c at item)
  still_after (misses u n why l part z) = kept part
  still_after (updates u p x n has is l after z) = changed o s.part t.part p _ has after k
  still_after (shows p x n has is ready l after z) = changed o s.part t.part p _ has after k
  still_after (ends os n at l after z) = absurd (no_reap os at)

-- ---- a list of events

module _ (f : Frame) (e : ℕ) (had : ℕ → Option PartView) (idle : (k : ℕ) (a : PartView) → had k ≡ Some a → HoldsNone a) where
  -- each node has the part that it had, but for its client, and nothing is to change it
  pub record IsStill (w : World) : Type 0 where
    pub frame : IsInFrame f w
    pub spared : IsSpared e w
    pub none : HasNoBaseCalls e w
    pub parts : (k : ℕ) → SamePart (had k) ((entity_flow e w).slot k).base.part

  still_happens : EachKeeps IsStill
  still_happens w v o h =
      let g = event_moves f w v o h.frame e in
      let s = (entity_flow e w).slot g.k in
      let t = (entity_flow e (happens node_steps w v)).slot g.k in
      record {
        frame = frame_happens f w v o h.frame;
        spared = spared_happens f e w v o h.frame h.spared;
        none = no_call_happens f e w v o h.frame h.none;
        parts =
            slots_kept (λ k s. SamePart (had k) s.base.part) g h.parts
            (still_after (here_at f g.k) e s.base (comes g.input) t.base g.moves.sent (had g.k) (idle g.k) (h.none.orders g.k)
            (λ c at. let no = (came (λ a k m. base_call_in m ≡ None) g (BaseCall c) at h.none.letters).1 in absurd cc)
            (λ os. unordered e w g.k os h.spared) (h.parts g.k)
            (part_moves f e g.k s (comes g.input) t g.moves.sent g.moves.moves));
      }

  pub still_leads : RunsKeep IsStill
  still_leads = runs_keep IsStill still_happens

-- ---- a load that gives the entity no call and no reap

none_reaps : (os : List Order) → total order_reaps os ≡ 0 → AllByRecursion (λ o. reaped_by_order o ≡ None) os
none_reaps [] h = tt
none_reaps (order.Reap x ∷ os) h = absurd (omega (arith, h))
none_reaps (order.Cell c ∷ os) h = (refl, none_reaps os (omega (arith, h)))
none_reaps (order.Base c ∷ os) h = (refl, none_reaps os (omega (arith, h)))
none_reaps (order.Tick ∷ os) h = (refl, none_reaps os (omega (arith, h)))
none_reaps (order.Bounds x ∷ os) h = (refl, none_reaps os (omega (arith, h)))

pub none_calls : (e : ℕ) (os : List Order) → AllByRecursion (IsCalmOrder e) os → letters_of base_call_of os ≡ []
none_calls e [] h = refl
none_calls e (order.Tick ∷ os) h = none_calls e os h.1
none_calls e (order.Reap x ∷ os) h = none_calls e os h.1
none_calls e (_ ∷ os) h = absurd h.0

module _ (f : Frame) (u : World) (between : IsBetweenRounds f u) (e ty : ℕ) (h : HasSettledPart f e ty u) (turn : NodeView → NodeView)
    (frame : IsInFrame f (with_nodes u turn)) (given : (k : ℕ) (s : NodeView) → slice_get u.nodes k ≡ Some s → Given e 0 s (turn s))
    (same : (s : NodeView) → part_at e (turn s) ≡ part_at e s) where
  abbrev then : World
  then = with_nodes u turn

  abbrev had : ℕ → Option PartView
  had k = ((entity_flow e u).slot k).base.part

  record Starts (o : Option PartView) (t : Has) : Type 0 where
    spared : HasNoReaps t
    none : calls_ordered t.base ≡ []
    part : SamePart o t.base.part

  starts_by : (k : ℕ) (o : Option NodeView) → slice_get u.nodes k ≡ o →
      Starts (slot_at (has_of e) has_none o).base.part (slot_at (has_of e) has_none (option_map turn o))
  starts_by k None at = record { spared = tt; none = refl; part = refl }
  starts_by k (Some s) at =
      let g = given k s at in
      record {
        spared = none_reaps (has_of e (turn s)).base.orders g.reaps;
        none = none_calls e (has_of e (turn s)).base.orders g.orders;
        part = subst (SamePart (part_at e s)) (sym (same s)) (same_part (part_at e s));
      }

  starts : (k : ℕ) → Starts (had k) ((entity_flow e then).slot k)
  starts k =
      subst (Starts (had k)) (sym (ap (slot_at (has_of e) has_none) (slice_get-map turn u.nodes k)))
      (starts_by k (slice_get u.nodes k) refl)

  no_mail : (a k : ℕ) → (entity_flow e then).mail a k ≡ []
  no_mail a k = ap (letters_of (mine e)) (quiet_links node_has_work u between.nodes.sound.square between.quiet a k)

  idle_by : (k : ℕ) (o : Option PartView) → (o ≡ None → ⊥) → had k ≡ o → k ≡ home_of f e
  idle_by k o some at = elim (cases_eq k (home_of f e)) [
    | inl is ↦ is
    | inr n ↦ absurd (some (sym at ∙ h.others k n))
  ]

  pub idle : (k : ℕ) (a : PartView) → had k ≡ Some a → HoldsNone a
  idle k a at =
      let is = idle_by k (Some a) (λ z. cc) at in
      let both : Some h.part ≡ Some a = sym h.here ∙ (ap had (sym is) ∙ at) in
      let one : h.part ≡ a = cc in
      subst HoldsNone one h.none_held

  pub is_still : IsStill f e had idle then
  is_still = record {
    frame = frame;
    spared = record {
      orders = λ k. (starts k).spared;
      letters = λ a k. subst (AllByRecursion (λ m. reaped_by m ≡ None)) (sym (no_mail a k)) tt;
    };
    none = record {
      orders = λ k. (starts k).none;
      letters = λ a k. subst (AllByRecursion (λ m. base_call_in m ≡ None)) (sym (no_mail a k)) tt;
    };
    parts = λ k. (starts k).part;
  }

  -- so it is settled after every list of events
  pub still_settled : (v : World) (es : List Event) → RunsTo then es v → HasSettledPart f e ty v
  still_settled v es run =
      let s = still_leads f e had idle then v es is_still run in
      let home = home_of f e in
      let is = same_some (had home) ((entity_flow e v).slot home).base.part (s.parts home) h.part h.here in
      record {
        part = with_client h.part is.0;
        here = is.1;
        others = λ k n. same_none (had k) ((entity_flow e v).slot k).base.part (s.parts k) (h.others k n);
        type = h.type;
        none_held = h.none_held;
        from_one = h.from_one;
      }
