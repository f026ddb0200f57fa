-- What a witness tells over every list of events: what is true of it stays so where each look keeps it.
use Rattle.seam_law_clients.proofs.Prelude.{◌≡◌, ℕ, ◌+◌, true, List, [], ◌∷◌, ◌++◌, length, Option, None, Some, refl, sym, ap, ◌∙◌, subst}
use Rattle.seam_law_clients.proofs.Prelude.{arith, slice_get, AllByRecursion, length-append, append-nil, happens, enabled, Occurs, items_to}
use Rattle.seam_law_clients.proofs.Prelude.{Event, Shown, RealView, WitnessView, Msg, Hand, base_of, Known, numbered, shown_of, looks_of}
use Rattle.seam_law_clients.proofs.Prelude.{after_looking, CellView, known_to, NodeView, World, node_steps, node_has_work, Cell, Base}
use Rattle.seam_law_clients.proofs.Prelude.{IsNode, Goes, comes, letter_in, letters_of, IsSilent, carried_in, Delivery, more_issued}
use Rattle.seam_law_clients.proofs.Prelude.{number_from, slot_at, Frame, here_at, Has, mine, concerning, has_of, entity_flow, MovesTo}
use Rattle.seam_law_clients.proofs.Prelude.{real_in, real_of, IsSpared, OneFrom, update_in, sent_of, sent_by, home_of, updates_at, shown_at}
use Rattle.seam_law_clients.proofs.Prelude.{tells, EachReal, HasClient, HasToldAtMost, HasRoomFor, FindsClient, HasOne, Replays, has_none}
use Rattle.seam_law_clients.proofs.Prelude.{RunsTo, real_at, ComesBetween, occurs, leads_nowhere, leads_by_one, leads_join, slots_kept}
use Rattle.seam_law_clients.proofs.Prelude.{came, sees_none, first_is, sole_here, delivery_goes, Update as UpdateData, one_happens, calm_of}
use Rattle.seam_law_clients.proofs.Prelude.{spared_happens, OfReal, unordered, one_of, finds_client, never_missed, client_happens, NotTaken}
use Rattle.seam_law_clients.proofs.Prelude.{as_often, LooksAt, still, elsewhere, looks, cell_looks, event_fact, sent_kept}
use Rattle.seam_node_steps.specs.Prelude.{Update, Boundaries}
use Rattle.seam_law_calls.proofs.PartEasing.{base_burden_happens}
use Rattle.seam_law_calls.proofs.ClientTold.{Told, told_by, untold, numbered_here}
use Rattle.seam_law_calls.proofs.Looking.{Look}
use Rattle.seam_law_clients.proofs.Silent.{same_items, issued_is}
use Rattle.seam_law_clients.proofs.Reals.{each_of}
use Rattle.seam_law_calls.proofs.Classify.{fed_plain}
use Rattle.seam_law_calls.proofs.WitnessHeld.{moves_hold}

-- what the witness of an entity told, in updates that are numbered from `first` on, so that P is true of it, of the real and of the witness
pub record Tells (f : Frame) (e ty first : ℕ) (P : List Shown → RealView → WitnessView → Type 0) (w : World) : Type 0 where
  pub one : HasOne f e ty w
  pub witness : WitnessView
  pub has : one.real.witness ≡ Some witness
  pub told : List Shown
  pub number : witness.sent + 1 ≡ first + length told
  pub delivery : Delivery updates_at shown_at tells (entity_flow e w) (home_of f e) first told
  pub holds : P told one.real witness

-- the look that waits at a cell of node k keeps what is true of what was told
abbrev pub AsksOfLook : Frame → ℕ → ℕ → (List Shown → RealView → WitnessView → Type 0) → World → ℕ → CellView → Type 0
AsksOfLook f e first P w k cell =
    cell.here ≡ here_at f k → (r : RealView) → real_at e w k ≡ Some r → (x : WitnessView) → r.witness ≡ Some x →
    (n : ℕ) → ((entity_flow e w).slot k).cell.looks ≡ n + 1 → (us : List Shown) → x.sent + 1 ≡ first + length us → P us r x →
    P (us ++ shown_of cell.here r x (known_to cell e))
    (record r {
      witness = Some (after_looking (known_to cell e) (looks_of r x (known_to cell e))
          (shown_of cell.here r x (known_to cell e)) r x);
    })
    (after_looking (known_to cell e) (looks_of r x (known_to cell e)) (shown_of cell.here r x (known_to cell e)) r x)

-- ---- an event

module _ (f : Frame) (e ty first n : ℕ) (P : List Shown → RealView → WitnessView → Type 0)
    (kept : (us : List Shown) (r q : RealView) (x : WitnessView) → Replays f r q → P us r x → P us q x) (w : World) (v : Event)
    (o : Occurs w v) (h : Tells f e ty first P w) (client : HasClient f e ty first w) (spared : IsSpared e w) (most : HasToldAtMost e n w)
    (room : HasRoomFor e n w) where
  abbrev next : World
  next = happens node_steps w v

  abbrev number : ℕ
  number = first + length h.told

  one_then : OneFrom f e ty h.one.real next
  one_then = one_happens f client.frame e ty client.known w v o h.one (calm_of f e w v o h.one.fits.frame spared)

  abbrev HasIt : RealView → Type 0
  HasIt r = r.witness ≡ Some h.witness

  each_has : EachReal e HasIt w
  each_has = each_of HasIt e w h.one.place h.one.real h.one.one h.has

  sent_is : (r : RealView) → HasIt r → sent_by r + 1 ≡ number
  sent_is r is = let a = ap sent_of is in let b = h.number in omega (arith, a, b)

  abbrev Then : List Shown → Type 0
  Then us = Delivery updates_at shown_at tells (entity_flow e next) (home_of f e) first (h.told ++ us)

  -- ---- by a fact of what the node does

  module _ (Fact : Has → Option Msg → Has → List (ℕ × Msg) → Type 0)
      (g : Goes (λ k s i t out. (m : MovesTo f e k s i t out) × Fact s i t m.sent) (entity_flow e w) (entity_flow e next)) where
    abbrev before : Has
    before = (entity_flow e w).slot g.k

    abbrev after : Has
    after = (entity_flow e next).slot g.k

    abbrev sent : List (ℕ × Msg)
    sent = g.moves.0.sent

    comes_due : (u : UpdateData) → comes g.input ≡ Some (Update u) → FindsClient f e g.k before.base u
    comes_due u is =
        let i = first_is (λ x. None) Some (entity_flow e w) g.k g.input g.rest (Update u) g.head (ap (carried_in Some) is) in
        let same : i.1 ≡ Update u = let z = i.3 in cc in
        finds_client f e ty first n w client most room i.0 g.k u g.rest (i.4 ∙ ap (λ l. l ∷ g.rest) same)

    comes_with : (r : RealView) (bs : Option Boundaries) → comes g.input ≡ Some (Hand r bs) → HasIt r
    comes_with r bs is = (came (λ a k m. OfReal HasIt m) g (Hand r bs) is each_has.hands).1 r refl

    told : Told f e g.k number before (comes g.input) after sent g.out g.moves.0.items
    told =
        told_by f e g.k number before (comes g.input) after sent g.out g.moves.0.items (λ r is. sent_is r (each_has.cells g.k r is))
        (λ r bs is. sent_is r (comes_with r bs is)) (λ u is. never_missed f e g.k before.base u (comes_due u is))
        (λ os. unordered e w g.k os spared) g.moves.0.moves

    -- what was told is what the letters tell
    delivered : (us : List Shown) → letters_of tells (g.out (home_of f e)) ≡ number_from number us → Then us
    delivered us is =
        let same : more_issued told.passes ≡ us =
        same_items number (more_issued told.passes) us
        (sym (issued_is updates_at shown_at tells (home_of f e) number before (comes g.input) after g.out told.passes) ∙ is) in
        subst Then same (delivery_goes updates_at shown_at tells g first h.told (home_of f e) h.delivery told.passes)

    -- where nothing is told, the real has the witness that it had
    quietly : ((r : RealView) → real_in after ≡ Some r → HasIt r) → AllByRecursion (λ p. OfReal HasIt p.1) sent →
        IsSilent update_in sent → Tells f e ty first P next
    quietly slot sends silent =
        let each : EachReal e HasIt next = record {
          cells = slots_kept (λ k s. (r : RealView) → real_in s ≡ Some r → HasIt r) g each_has.cells slot;
          hands = sent_kept (λ a k m. OfReal HasIt m) g sent g.moves.0.items each_has.hands sends;
        } in
        record {
          one = one_then.has;
          witness = h.witness;
          has = one_of HasIt e next one_then.has.place one_then.has.real one_then.has.one each;
          told = h.told;
          number = h.number;
          delivery =
              subst (λ us. Delivery updates_at shown_at tells (entity_flow e next) (home_of f e) first us) (append-nil h.told)
              (delivered [] (ap (letters_of tells) (g.moves.0.items (home_of f e))
              ∙ sees_none tells (home_of f e) sent (untold sent silent)));
          holds = kept h.told h.one.real one_then.has.real h.witness one_then.replays h.holds;
        }

  -- ---- each kind of step

  abbrev IsStill : Has → Option Msg → Has → List (ℕ × Msg) → Type 0
  IsStill s i u ps = (real_in u ≡ real_in s) × (ps ≡ [])

  still_then : IsStill (has_of e o.node) (letter_in (mine e) o.input) (has_of e (node_steps o.node o.input).state)
      (concerning e (node_steps o.node o.input).sent) → Tells f e ty first P next
  still_then fact =
      let g = event_fact f e w v o h.one.fits.frame IsStill fact in
      quietly IsStill g (λ r is. each_has.cells g.k r (sym g.moves.1.0 ∙ is))
      (subst (AllByRecursion (λ p. OfReal HasIt p.1)) (sym g.moves.1.1) tt) (subst (IsSilent update_in) (sym g.moves.1.1) tt)

  abbrev IsNotTaken : Has → Option Msg → Has → List (ℕ × Msg) → Type 0
  IsNotTaken s i u ps = NotTaken s.cell i u.cell

  elsewhere_then : NotTaken (has_of e o.node).cell (letter_in (mine e) o.input) (has_of e (node_steps o.node o.input).state).cell →
      Tells f e ty first P next
  elsewhere_then fact =
      let g = event_fact f e w v o h.one.fits.frame IsNotTaken fact in
      let s = (entity_flow e w).slot g.k in
      let u = (entity_flow e next).slot g.k in
      let held =
      moves_hold HasIt (λ r q same is. same ∙ is) f e g.k s (comes g.input) u g.moves.0.sent (each_has.cells g.k)
      (comes_with IsNotTaken g) g.moves.1 g.moves.0.moves in
      quietly IsNotTaken g held.slot held.sends held.silent

  -- ---- a look

  module _ (cell : CellView) (is : o.node ≡ Cell cell) (here : cell.here ≡ here_at f v.node) (more : AsksOfLook f e first P w v.node cell)
    where
      abbrev known : List Known
      known = known_to cell e

      abbrev j : ℕ
      j = base_of cell.here e

      abbrev IsLook : Has → Option Msg → Has → List (ℕ × Msg) → Type 0
      IsLook s i u ps = LooksAt j e cell.here known s.cell u.cell ps

      node_is : (entity_flow e w).slot v.node ≡ has_of e (Cell cell)
      node_is = ap (slot_at (has_of e) has_none) (o.is_node ∙ ap Some is)

      looks_then : LooksAt j e cell.here known (has_of e (Cell cell)).cell (has_of e (node_steps (Cell cell) o.input).state).cell
          (concerning e (node_steps (Cell cell) o.input).sent) → Tells f e ty first P next
      looks_then fact =
          let g = event_fact f e w v o h.one.fits.frame IsLook
          (subst (λ s. LooksAt j e cell.here known (has_of e s).cell (has_of e (node_steps s o.input).state).cell
          (concerning e (node_steps s o.input).sent)) (sym is) fact) in
          let l : LooksAt j e cell.here known ((entity_flow e w).slot g.k).cell ((entity_flow e next).slot g.k).cell g.moves.0.sent =
          g.moves.1 in
          let shown : List Shown = shown_of cell.here l.real l.witness known in
          let now : WitnessView = after_looking known (looks_of l.real l.witness known) shown l.real l.witness in
          let real : RealView = record l.real { witness = Some now } in
          let same : l.real ≡ h.one.real =
          (sole_here real_in real_of (entity_flow e w) h.one.place h.one.real l.real g.k h.one.one l.was).1 in
          let told_same : h.witness ≡ l.witness =
          let z : Some h.witness ≡ Some l.witness = sym (each_has.cells g.k l.real l.was) ∙ l.seen in cc in
          let there : real_at e w v.node ≡ Some l.real =
          let at : real_at e w v.node ≡ Some fact.real = ap real_in node_is ∙ fact.was in
          let too = (sole_here real_in real_of (entity_flow e w) h.one.place h.one.real fact.real v.node h.one.one at).1 in
          at ∙ ap (λ y. Some y) (too ∙ sym same) in
          let holds : P h.told l.real l.witness =
          subst (λ x. P h.told l.real x) told_same (subst (λ r. P h.told r h.witness) (sym same) h.holds) in
          let one_now : real ≡ one_then.has.real =
          (sole_here real_in real_of (entity_flow e next) one_then.has.place one_then.has.real real g.k one_then.has.one l.is).1 in
          let sent_now = ap (λ (x : WitnessView). x.sent) told_same in
          let numbered_ = h.number in
          let many = length-append h.told shown in
          let due : l.witness.sent + 1 ≡ number = omega (arith, sent_now, numbered_) in
          record {
            one = one_then.has;
            witness = now;
            has = ap (λ (x : RealView). x.witness) (sym one_now);
            told = h.told ++ shown;
            number =
                let s : (l.witness.sent + length shown) + 1 ≡ first + length (h.told ++ shown) =
                omega (arith, sent_now, numbered_, many) in s;
            delivery =
                delivered IsLook g shown
                (ap (letters_of tells) (g.moves.0.items (home_of f e) ∙ ap (items_to (home_of f e)) l.tells)
                ∙ (ap (λ a. letters_of tells (items_to (home_of f e) (numbered a e l.witness.sent shown)))
                (ap (λ a. base_of a e) here)
                ∙ (numbered_here (home_of f e) e l.witness.sent shown
                ∙ ap (λ m. number_from m shown) due)));
            holds =
                subst (λ r. P (h.told ++ shown) r now) one_now
                (more here l.real there l.witness l.seen _ (ap (λ (s : Has). s.cell.looks) node_is ∙ fact.taken) h.told due holds);
          }

  -- ---- the node

  then_by : (x : NodeView) → o.node ≡ x →
      ((cell : CellView) → slice_get w.nodes v.node ≡ Some (Cell cell) → AsksOfLook f e first P w v.node cell) → Tells f e ty first P next
  then_by (Base b) is more =
      elsewhere_then
      (subst (λ s. NotTaken (has_of e s).cell (letter_in (mine e) o.input) (has_of e (node_steps s o.input).state).cell) (sym is)
      (as_often refl))
  then_by (Cell cell) is more =
      let there = o.is_node ∙ ap Some is in
      let node : IsNode (Cell cell) = subst IsNode is (h.one.fits.frame.sound.states v.node o.node o.is_node) in
      look_by (cell_looks cell node.keys e (h.one.fits.frame.nodes v.node (Cell cell) there).number o.input
      (fed_plain f w v o h.one.fits.frame)) (h.one.fits.frame.nodes v.node (Cell cell) there).here (more cell there)
    where
      look_by : Look e cell.here (known_to cell e) (has_of e (Cell cell)).cell (letter_in (mine e) o.input)
          (has_of e (node_steps (Cell cell) o.input).state).cell (concerning e (node_steps (Cell cell) o.input).sent) →
          cell.here ≡ here_at f v.node → AsksOfLook f e first P w v.node cell → Tells f e ty first P next
      look_by (still same none) here asks =
          still_then
          (subst (λ s. IsStill (has_of e s) (letter_in (mine e) o.input) (has_of e (node_steps s o.input).state)
          (concerning e (node_steps s o.input).sent)) (sym is) (same, none))
      look_by (elsewhere not) here asks =
          elsewhere_then
          (subst (λ s. NotTaken (has_of e s).cell (letter_in (mine e) o.input) (has_of e (node_steps s o.input).state).cell) (sym is) not)
      look_by (looks l) here asks = looks_then cell is here asks l

  tells_happen : ((cell : CellView) → slice_get w.nodes v.node ≡ Some (Cell cell) → AsksOfLook f e first P w v.node cell) →
      Tells f e ty first P next
  tells_happen = then_by o.node refl

-- ---- every list of events

module _ (f : Frame) (e ty first n : ℕ) (P : List Shown → RealView → WitnessView → Type 0)
    (kept : (us : List Shown) (r q : RealView) (x : WitnessView) → Replays f r q → P us r x → P us q x) (start end : World)
    (most : (u : World) → ComesBetween start end u → HasToldAtMost e n u)
    (more : (w : World) → ComesBetween start end w → (k : ℕ) (cell : CellView) → slice_get w.nodes k ≡ Some (Cell cell) →
    AsksOfLook f e first P w k cell) where
  record Along (w : World) : Type 0 where
    tells_ : Tells f e ty first P w
    client : HasClient f e ty first w
    spared : IsSpared e w
    room : HasRoomFor e n w

  along_run : (w : World) (us es : List Event) → RunsTo start us w → Along w → RunsTo w es end → Along end
  along_run w us [] so_far h rest = subst Along (sym rest.is_run) h
  along_run w us (v ∷ es) so_far h rest =
      let on : enabled node_has_work w v ≡ true = rest.each.0 in
      let o = occurs node_has_work w v on in
      let between : ComesBetween start end w = record { before = us; after = v ∷ es; from = so_far; to = rest } in
      let now = most w between in
      let less = base_burden_happens f e w v o h.client.one.fits.frame in
      let few = h.room in
      along_run (happens node_steps w v) (us ++ v ∷ []) es
      (leads_join node_has_work node_steps start w (happens node_steps w v) us (v ∷ []) so_far
      (leads_by_one node_has_work node_steps w v on))
      (record {
        tells_ = tells_happen f e ty first n P kept w v o h.tells_ h.client h.spared now h.room (more w between v.node);
        client = client_happens f e ty first n w v o h.client h.spared now h.room;
        spared = spared_happens f e w v o h.client.one.fits.frame h.spared;
        room = omega (arith, less, few);
      })
      (record { each = rest.each.1; is_run = rest.is_run })

  pub tells_lead : (es : List Event) → Tells f e ty first P start → HasClient f e ty first start → IsSpared e start →
      HasRoomFor e n start → RunsTo start es end → Tells f e ty first P end
  tells_lead es h client spared room run_ =
      (along_run start [] es (leads_nowhere node_has_work node_steps start)
      (record { tells_ = h; client = client; spared = spared; room = room }) run_).tells_
