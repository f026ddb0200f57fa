-- What a witness told stays within what it told at the start and what its looks may tell.
use Rattle.seam_law_calls.proofs.Prelude.{◌≡◌, ℕ, ◌+◌, ◌*◌, ◌<◌, ◌≤◌, Bool, true, false, List, [], ◌∷◌, length, map, filter_map, Option}
use Rattle.seam_law_calls.proofs.Prelude.{Some, refl, sym, ap, ◌∙◌, subst, arith, inl, inr, slice_get, AllByRecursion, cases_lt, length-map}
use Rattle.seam_law_calls.proofs.Prelude.{cells_of, happens, Occurs, Event, copy_in, GhostCopy, Shown, RealView, WitnessView, Msg, Hand}
use Rattle.seam_law_calls.proofs.Prelude.{Here, base_of, cell_count, Known, seen_as, shown_for, own_due, looks_of, shown_of, after_looking}
use Rattle.seam_law_calls.proofs.Prelude.{CellView, known_to, NodeView, World, node_steps, Cell, Base, IsNode, Goes, comes, letter_in}
use Rattle.seam_law_calls.proofs.Prelude.{slot_at, IsSilent, Frame, IsInFrame, Has, mine, concerning, has_of, has_none, entity_flow}
use Rattle.seam_law_calls.proofs.Prelude.{MovesTo, real_in, real_of, sent_of, sent_by, EachReal, HasToldAtMost, most_entities}
use Rattle.seam_law_calls.proofs.Prelude.{HasFewEntities, IsFewView, SeesFew, looks_left, most_shown, RunsTo, real_at, sound_sends}
use Rattle.seam_law_calls.proofs.Prelude.{event_goes, slots_kept, came, sent_kept}
use Rattle.std.specs.FinMap as table
use Rattle.seam_law_calls.proofs.Classify.{node_laws, node_moves, frame_happens, fed_plain}
use Rattle.seam_law_calls.proofs.Lists.{letters_are}
use Rattle.seam_law_calls.proofs.BaseSilent.{numbered_unreal}
use Rattle.seam_law_calls.proofs.WitnessKept.{OfReal, none_carried, each_weaker, ByWitness}
use Rattle.seam_law_calls.proofs.Below.{AllBelow, known_to_below, known_to_few, view_few, few_after_looks, looks_few, mapped_few}
use Rattle.seam_law_calls.proofs.Absent.{absent_happens}
use Rattle.seam_law_calls.proofs.Looking.{NotTaken, as_often, looked_at, LooksAt, Look, still, elsewhere, looks, cell_looks}
use Rattle.seam_law_calls.proofs.LooksLeft.{looks_left_happens, looks_left_falls}
use Rattle.seam_law_calls.specs.Frames.{IsAt}
use Rattle.seam_law_calls.proofs.Keeping.{RunsKeep, runs_keep}
use Rattle.seam_law_calls.proofs.WitnessHeld.{moves_hold}

-- ---- an event, with a fact of what the node has, is fed, has then and sends

module _ (f : Frame) (e : ℕ) (w : World) (v : Event) (o : Occurs w v) (q : IsInFrame f w)
    (Fact : Has → Option Msg → Has → List (ℕ × Msg) → Type 0) where
  abbrev pub Facts : ℕ → Has → Option Msg → Has → (ℕ → List Msg) → Type 0
  Facts k s i t out = (m : MovesTo f e k s i t out) × Fact s i t m.sent

  pub event_fact : Fact (has_of e o.node) (letter_in (mine e) o.input) (has_of e (node_steps o.node o.input).state)
      (concerning e (node_steps o.node o.input).sent) → Goes Facts (entity_flow e w) (entity_flow e (happens node_steps w v))
  event_fact fact =
      event_goes (mine e) (has_of e) has_none Facts node_steps w v o q.sound.square (sound_sends node_laws w v o q.sound) (
        record {
          sent = concerning e (node_steps o.node o.input).sent;
          moves = node_moves f e v.node o.node o.input (q.sound.states v.node o.node o.is_node) (q.nodes v.node o.node o.is_node)
              (fed_plain f w v o q);
          items = λ j. letters_are e j (node_steps o.node o.input).sent;
        },
        fact,
      )

-- ---- what is true of each real by its witness stays true, if it is true of one whose witness looked

-- the entity's witness in the cell looked
abbrev pub Looked : (e : ℕ) (w : World) (v : Event) → Occurs w v → CellView → Type 0
Looked e w v o c =
    LooksAt (base_of c.here e) e c.here (known_to c e) (has_of e o.node).cell (has_of e (node_steps o.node o.input).state).cell
    (concerning e (node_steps o.node o.input).sent)

module _ (f : Frame) (e : ℕ) (w : World) (v : Event) (o : Occurs w v) (frame : IsInFrame f w) (P : RealView → Type 0)
    (by_witness : ByWitness P) (each : EachReal e P w) where
  abbrev after : World
  after = happens node_steps w v

  -- by what the node does with the witness
  module _ (Fact : Has → Option Msg → Has → List (ℕ × Msg) → Type 0)
      (g : Goes (λ k s i t out. (m : MovesTo f e k s i t out) × Fact s i t m.sent) (entity_flow e w) (entity_flow e after)) where
    each_then : ((r : RealView) → real_at e after g.k ≡ Some r → P r) →
        AllByRecursion (λ p. OfReal P p.1) g.moves.0.sent → EachReal e P after
    each_then slot sends = record {
      cells = slots_kept (λ k s. (r : RealView) → real_in s ≡ Some r → P r) g each.cells slot;
      hands = sent_kept (λ a k m. OfReal P m) g g.moves.0.sent g.moves.0.items each.hands sends;
    }

  abbrev IsStill : Has → Option Msg → Has → List (ℕ × Msg) → Type 0
  IsStill s i t sent = (real_in t ≡ real_in s) × (sent ≡ [])

  still_each : IsStill (has_of e o.node) (letter_in (mine e) o.input) (has_of e (node_steps o.node o.input).state)
      (concerning e (node_steps o.node o.input).sent) → EachReal e P after
  still_each fact =
      let g = event_fact f e w v o frame IsStill fact in
      each_then IsStill g (λ r has. each.cells g.k r (sym g.moves.1.0 ∙ has))
      (subst (AllByRecursion (λ p. OfReal P p.1)) (sym g.moves.1.1) tt)

  abbrev IsNotTaken : Has → Option Msg → Has → List (ℕ × Msg) → Type 0
  IsNotTaken s i t sent = NotTaken s.cell i t.cell

  elsewhere_each : NotTaken (has_of e o.node).cell (letter_in (mine e) o.input) (has_of e (node_steps o.node o.input).state).cell →
      EachReal e P after
  elsewhere_each fact =
      let g = event_fact f e w v o frame IsNotTaken fact in
      let held =
      moves_hold P by_witness f e g.k ((entity_flow e w).slot g.k) (comes g.input) ((entity_flow e after).slot g.k) g.moves.0.sent
      (each.cells g.k) (λ r bs is. (came (λ a k m. OfReal P m) g (Hand r bs) is each.hands).1 r refl) g.moves.1 g.moves.0.moves in
      each_then IsNotTaken g held.slot held.sends

  module _ (at : Here) (known : List Known) where
    abbrev IsLook : Has → Option Msg → Has → List (ℕ × Msg) → Type 0
    IsLook s i t sent = (l : LooksAt (base_of at e) e at known s.cell t.cell sent) × P (looked_at at known l.real l.witness)

    looks_each : IsLook (has_of e o.node) (letter_in (mine e) o.input) (has_of e (node_steps o.node o.input).state)
        (concerning e (node_steps o.node o.input).sent) → EachReal e P after
    looks_each fact =
        let g = event_fact f e w v o frame IsLook fact in
        let l : LooksAt (base_of at e) e at known ((entity_flow e w).slot g.k).cell ((entity_flow e after).slot g.k).cell g.moves.0.sent =
        g.moves.1.0 in
        each_then IsLook g
        (λ r has. let one : looked_at at known l.real l.witness ≡ r = let z = sym l.is ∙ has in cc in subst P one g.moves.1.1)
        (none_carried P g.moves.0.sent
        (subst (IsSilent real_of) (sym l.tells) (numbered_unreal (base_of at e) e l.witness.sent _)))

  module _ (look : (c : CellView) → o.node ≡ Cell c → (l : Looked e w v o c) → P (looked_at c.here (known_to c e) l.real l.witness)) where
    each_by : (n : NodeView) → o.node ≡ n → EachReal e P after
    each_by (Base n) is =
        elsewhere_each
        (subst (λ s. NotTaken (has_of e s).cell (letter_in (mine e) o.input) (has_of e (node_steps s o.input).state).cell) (sym is)
        (as_often refl))
    each_by (Cell c) is =
        let node : IsNode (Cell c) = subst IsNode is (frame.sound.states v.node o.node o.is_node) in
        by
        (subst (λ s. Look e c.here (known_to c e) (has_of e s).cell (letter_in (mine e) o.input)
        (has_of e (node_steps s o.input).state).cell (concerning e (node_steps s o.input).sent)) (sym is)
        (cell_looks c node.keys e (subst (IsAt f v.node) is (frame.nodes v.node o.node o.is_node)).number o.input
        (fed_plain f w v o frame)))
      where
        by : Look e c.here (known_to c e) (has_of e o.node).cell (letter_in (mine e) o.input)
            (has_of e (node_steps o.node o.input).state).cell (concerning e (node_steps o.node o.input).sent) → EachReal e P after
        by (still same none) = still_each (same, none)
        by (elsewhere not) = elsewhere_each not
        by (looks l) = looks_each c.here (known_to c e) (l, look c is l)

    pub each_looked : EachReal e P after
    each_looked = each_by o.node refl

-- ---- how much a look tells

module _ (h : Here) (r : RealView) (w : WitnessView) (known : List Known) where
  abbrev others : List Shown
  others = filter_map (shown_for known) (looks_of r w known)

  by_due : (b : Bool) → own_due w.told r.version ≡ b → length (shown_of h r w known) ≤ 1 + length others
  by_due true is = rw is (omega arith)
  by_due false is = rw is (omega arith)

  pub told_few : IsFewView w.view → length known ≤ most_entities → length (shown_of h r w known) ≤ most_shown
  told_few view few =
      let a = by_due (own_due w.told r.version) refl in
      let b = mapped_few (shown_for known) (looks_of r w known) in
      let c : length (looks_of r w known) ≤ 2 * length w.view.entries + length (map seen_as known) =
      looks_few w.view r.state.pos (map seen_as known) in
      let d = length-map known seen_as in
      let e = view_few w.view view in
      omega (arith, a, b, c, d, e, few)

-- ---- what is kept

module _ (f : Frame) (most : cells_of f.tree ≤ cell_count) (e b : ℕ) where
  -- with n looks left the witness has a view of few entities, and what it told and may tell is at most b
  record IsWithin (n : ℕ) (r : RealView) : Type 0 where
    sees : SeesFew r
    told : sent_by r + most_shown * n ≤ b

  within_by : (n : ℕ) → ByWitness (IsWithin n)
  within_by n r q same h = record {
    sees = λ x seen. h.sees x (sym same ∙ seen);
    told = let is = ap sent_of same in let few = h.told in omega (arith, is, few);
  }

  fewer_left : (m n : ℕ) → m ≤ n → (r : RealView) → IsWithin n r → IsWithin m r
  fewer_left m n le r h = record { sees = h.sees; told = let few = h.told in omega (arith, few, le) }

  -- after a look one less is left
  within_look : (h : Here) (known : List Known) → AllBelow known → length known ≤ most_entities → (r : RealView) (w : WitnessView) →
      r.witness ≡ Some w → (m n : ℕ) → m + 1 ≤ n → IsWithin n r → IsWithin m (looked_at h known r w)
  within_look h known below few r w seen m n le it =
      let view = it.sees w seen in
      let more = told_few h r w known view few in
      let sent = ap sent_of seen in
      let was = it.told in
      record {
        sees = λ x at.
            let same : after_looking known (looks_of r w known) (shown_of h r w known) r w ≡ x = cc in
            subst (λ (y : WitnessView). IsFewView y.view) same (few_after_looks known w.view (looks_of r w known) below view);
        told = omega (arith, more, sent, was, le);
      }

  record Within (w : World) : Type 0 where
    frame : IsInFrame f w
    few : HasFewEntities w
    each : EachReal e (IsWithin (looks_left e w)) w

  -- ---- an event

  module _ (w : World) (v : Event) (o : Occurs w v) (h : Within w) where
    abbrev next : World
    next = happens node_steps w v

    abbrev left : ℕ
    left = looks_left e next

    no_more : left ≤ looks_left e w
    no_more = looks_left_happens f most e w v o h.frame

    weaker : EachReal e (IsWithin left) w
    weaker = each_weaker (IsWithin (looks_left e w)) (IsWithin left) e w (fewer_left left (looks_left e w) no_more) h.each

    -- what a cell knows has a number below the bound
    real_below : (c : CellView) → slice_get w.nodes v.node ≡ Some (Cell c) → (x : ℕ) (r : RealView) → table.get c.reals x ≡ Some r →
        x < most_entities
    real_below c at x r has = elim (cases_lt x most_entities) [
      | inl lt ↦ lt
      | inr le ↦
          let none = (h.few x le).cells v.node in
          absurd (let z = sym (ap (λ n. real_in (slot_at (has_of x) has_none n)) (sym at) ∙ none.real) ∙ has in cc)
    ]

    copy_below : (c : CellView) → slice_get w.nodes v.node ≡ Some (Cell c) → (x : ℕ) (k : GhostCopy) →
        copy_in (table.get c.ghosts x) ≡ Some k → x < most_entities
    copy_below c at x k has = elim (cases_lt x most_entities) [
      | inl lt ↦ lt
      | inr le ↦
          let none = (h.few x le).cells v.node in
          absurd (let z = sym (ap (λ n. copy_in (slot_at (has_of x) has_none n).cell.slot.ghost) (sym at) ∙ none.copy) ∙ has in cc)
    ]

    looked : (c : CellView) → o.node ≡ Cell c → (l : Looked e w v o c) → IsWithin left (looked_at c.here (known_to c e) l.real l.witness)
    looked c is l =
        let there = o.is_node ∙ ap Some is in
        let less =
        looks_left_falls f most e w v o h.frame (base_of c.here e) c.here (known_to c e) (ap (λ s. (has_of e s).base.orders) is)
        (ap (λ s. (has_of e (node_steps s o.input).state).base.orders) is) l in
        within_look c.here (known_to c e) (known_to_below c (real_below c there) (copy_below c there) e)
        (known_to_few c (real_below c there) (copy_below c there) e) l.real l.witness l.seen left (looks_left e w) less
        (h.each.cells v.node l.real (ap (λ n. real_in (slot_at (has_of e) has_none n)) o.is_node ∙ l.was))

    within_happens : Within next
    within_happens = record {
      frame = frame_happens f w v o h.frame;
      few = λ x le. absent_happens f x w v o h.frame (h.few x le);
      each = each_looked f e w v o h.frame (IsWithin left) (within_by left) weaker looked;
    }

  within_leads : RunsKeep Within
  within_leads = runs_keep Within within_happens

-- ---- all of it

module _ (f : Frame) (most : cells_of f.tree ≤ cell_count) (e n : ℕ) (w v : World) (es : List Event) (frame : IsInFrame f w)
    (few : HasFewEntities w) (sees : EachReal e SeesFew w) (told : HasToldAtMost e n w) (run : RunsTo w es v) where
  abbrev b : ℕ
  b = n + most_shown * looks_left e w

  abbrev P : RealView → Type 0
  P r = SeesFew r × (sent_by r ≤ n)

  both : (ms : List Msg) → AllByRecursion (OfReal SeesFew) ms → AllByRecursion (OfReal (λ r. sent_by r ≤ n)) ms →
      AllByRecursion (OfReal (IsWithin f most e b (looks_left e w))) ms
  both [] h k = tt
  both (m ∷ ms) h k = (
    (λ r is. record { sees = h.0 r is; told = let le = k.0 r is in omega (arith, le) }),
    both ms h.1 k.1,
  )

  within : Within f most e b v
  within =
      within_leads f most e b w v es (record {
        frame = frame;
        few = few;
        each = record {
          cells = λ k r has. record { sees = sees.cells k r has; told = let le = told.cells k r has in omega (arith, le) };
          hands = λ a k. both ((entity_flow e w).mail a k) (sees.hands a k) (told.hands a k);
        };
      }) run

  pub tells_at_most : HasToldAtMost e b v
  tells_at_most =
      each_weaker (IsWithin f most e b (looks_left e v)) (λ r. sent_by r ≤ b) e v
      (λ r h. let le = h.told in omega (arith, le)) within.each

  pub sees_few_then : EachReal e SeesFew v
  sees_few_then = each_weaker (IsWithin f most e b (looks_left e v)) SeesFew e v (λ r h. h.sees) within.each
