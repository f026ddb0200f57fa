-- Exactly one real: each event leaves the one real at a place that is known, and it replays its calls.
use Rattle.seam_law_calls.proofs.Prelude.{◌≡◌, ℕ, ◌<◌, Bool, true, false, List, [], ◌∷◌, length, ◌⊎◌, Option, None, Some, refl, sym, ap}
use Rattle.seam_law_calls.proofs.Prelude.{◌∙◌, subst, arith, inl, inr, AllByRecursion, list_all, cases_eq, Division, cells_of, happens, run}
use Rattle.seam_law_calls.proofs.Prelude.{AllEnabled, Occurs, items_to, Input, Task, From, Event, RealView, Msg, Hand, Reap, limit}
use Rattle.seam_law_calls.proofs.Prelude.{cell_numbers, properties, is_cell_if, may_come, World, node_steps, node_has_work, Goes, comes}
use Rattle.seam_law_calls.proofs.Prelude.{letter_in, letters_of, carried_in, TokenPlace, On, Sole, Handles, still, turns, lands, leaves}
use Rattle.seam_law_calls.proofs.Prelude.{relays, place_after, token_after, Frame, IsTreeOf, here_at, IsInFrame, Has, concerns, kept_if}
use Rattle.seam_law_calls.proofs.Prelude.{mine, entity_flow, MovesTo, Replays, RealFits, IsFitReal, IsFitHand, real_burden, real_in}
use Rattle.seam_law_calls.proofs.Prelude.{real_of, reaped_by, HasNoReaps, IsSpared, AllFits, IsFrame, HasOne, OneFrom, reaps, NoReapComes}
use Rattle.seam_law_calls.proofs.Prelude.{RunsTo, real_at, of_group-Decides, occurs, slots_kept, letters_kept, came, sole_came, sole_goes}
use Rattle.seam_law_calls.proofs.Prelude.{token_turns, haunts_cell, sent_kept}
use Rattle.std.specs.FinSet as set
use Rattle.seam_defs.specs.declared.flags.Group.TheVariants as group
use Rattle.seam_law_calls.proofs.Keeping.{run_keeps, EachKeeps, runs_keep, FramedKeep}
use Rattle.seam_law_calls.proofs.Classify.{frame_happens, event_moves_with}
use Rattle.seam_law_calls.proofs.Trees.{cells_alike}
use Rattle.seam_law_calls.proofs.Holds.{all_two, below_is}
use Rattle.seam_law_calls.proofs.Replaying.{replays_none, replays_on}
use Rattle.seam_law_calls.proofs.Handling.{FindsRoom, StillFits, Handled, handled}
use Rattle.seam_law_calls.proofs.Sparing.{orders_spared, sent_spared}
use Rattle.seam_law_calls.proofs.Easing.{burden_happens, came_small}
use Rattle.seam_node_steps.specs.Prelude.{Boundaries}

-- ---- a real that fits may come

haunt_by : (tree : Division) (r : RealView) (j : ℕ) (b : Bool) → set.contains r.haunts j ≡ b →
    ((j : ℕ) → set.contains r.haunts j ≡ true → j < cells_of tree) → is_cell_if b tree j ≡ true
haunt_by tree r j true is low = below_is j (cells_of tree) (low j is)
haunt_by tree r j false is low = refl

haunts_in : (tree : Division) (r : RealView) → ((j : ℕ) → set.contains r.haunts j ≡ true → j < cells_of tree) → (js : List ℕ) →
    list_all (haunts_cell tree r) js ≡ true
haunts_in tree r low [] = refl
haunts_in tree r low (j ∷ js) =
    all_two (haunts_cell tree r j) (list_all (haunts_cell tree r) js) (haunt_by tree r j (set.contains r.haunts j) refl low)
    (haunts_in tree r low js)

module _ (f : Frame) (frame : IsFrame f) (e ty k : ℕ) (tree : Division) (of : IsTreeOf f tree) where
  pub may_land : (r : RealView) → ty < length f.defs → RealFits f e ty k r → real_burden r < limit → may_come (here_at f k) tree r ≡ true
  may_land r known is few =
      let alike = cells_alike f frame tree of in
      let home = is.home in
      let haunts = is.haunts in
      let ps = properties (here_at f k) r.ty in
      let type = is.type in
      let a : r.ty < length f.defs = omega (arith, type, known) in
      let values = (of_group-Decides ps group.Real r.state.props).1 is.values in
      let fits = all_two _ _ (below_is r.ty (length f.defs) a) (all_two _ _ values (all_two _ _ is.inside is.held)) in
      let inside = all_two _ _ (below_is k (cells_of tree) (omega (arith, home, alike)))
      (haunts_in tree r (λ j at. let low = haunts j at in omega (arith, low, alike)) cell_numbers) in
      let small = all_two _ _ (below_is r.beat limit (omega (arith, few)))
      (all_two _ _ (below_is r.generation limit (omega (arith, few))) (below_is r.version limit (omega (arith, few)))) in
      all_two _ _ fits (all_two _ _ inside small)

-- ---- letters that carry a real

hand_is : (m : Msg) (r : RealView) → real_of m ≡ Some r → (bs : Option Boundaries) × (m ≡ Hand r bs)
hand_is (Hand q bs) r h = (bs, let same : q ≡ r = cc in ap (λ x. Hand x bs) same)
hand_is _ r h = cc

pub came_hand : (i : Option Msg) (r : RealView) → carried_in real_of i ≡ Some r → (bs : Option Boundaries) × (i ≡ Some (Hand r bs))
came_hand None r h = cc
came_hand (Some m) r h = let p = hand_is m r h in (p.0, ap Some p.1)

module _ (P : RealView → Type 0) where
  abbrev OfHand : Msg → Type 0
  OfHand m = (r : RealView) (bs : Option Boundaries) → m ≡ Hand r bs → P r

  -- what is true of each real that the letters carry
  hands_by : (m : Msg) (ms : List Msg) → AllByRecursion P (letters_of real_of (m ∷ ms)) →
      (AllByRecursion P (letters_of real_of ms) → AllByRecursion OfHand ms) → AllByRecursion OfHand (m ∷ ms)
  hands_by (Hand q bs) ms h more = ((λ r os is. let same : q ≡ r = cc in subst P same h.0), more h.1)
  hands_by _ ms h more = ((λ r os is. cc), more h)

  pub hands_all : (ms : List Msg) → AllByRecursion P (letters_of real_of ms) → AllByRecursion OfHand ms
  hands_all [] h = tt
  hands_all (m ∷ ms) h = hands_by m ms h (hands_all ms)

-- ---- what fits after a move

module _ (f : Frame) (frame : IsFrame f) (e ty k : ℕ) (s : Has) (i : Option Msg) (t : Has) (sent : List (ℕ × Msg)) (out : ℕ → List Msg)
    (items : (j : ℕ) → out j ≡ items_to j sent) where
  abbrev Handles_it : Type 0
  Handles_it = Handles real_in real_of (Replays f) s i t out

  same_fits : (o q : Option RealView) → q ≡ o → IsFitReal f e ty k o → IsFitReal f e ty k q
  same_fits o q same is r h = is r (sym same ∙ h)

  one_fits : (q : RealView) (o : Option RealView) → o ≡ Some q → RealFits f e ty k q → IsFitReal f e ty k o
  one_fits q o at is r h = let same : q ≡ r = cc in subst (RealFits f e ty k) same is

  none_fits : (o : Option RealView) → o ≡ None → IsFitReal f e ty k o
  none_fits o at r h = cc

  slot_fits : (m : Handles_it) → StillFits f frame e ty k s i t sent out items m → IsFitReal f e ty k (real_in s) →
      ((r : RealView) (bs : Option Boundaries) → i ≡ Some (Hand r bs) → RealFits f e ty k r) → IsFitReal f e ty k (real_in t)
  slot_fits (still a b c) fit here hand = same_fits (real_in s) (real_in t) a here
  slot_fits (turns r q a b c d o) fit here hand = one_fits q (real_in t) b (fit (here r a))
  slot_fits (lands r q a b c o) fit here hand = one_fits q (real_in t) b (fit (hand r (came_hand i r a).0 (came_hand i r a).1))
  slot_fits (leaves r q to a b c d o) fit here hand = none_fits (real_in t) b
  slot_fits (relays r q to a b c o) fit here hand = same_fits (real_in s) (real_in t) b here

  nothing_fits : (j : ℕ) → letters_of real_of (out j) ≡ [] → AllByRecursion (IsFitHand f e ty j) (out j)
  nothing_fits j h = hands_all (RealFits f e ty j) (out j) (subst (AllByRecursion (RealFits f e ty j)) (sym h) tt)

  sent_fits_by : (q : RealView) (to j : ℕ) → letters_of real_of (out to) ≡ q ∷ [] →
      ((j : ℕ) → (j ≡ to → ⊥) → letters_of real_of (out j) ≡ []) → RealFits f e ty to q → AllByRecursion (IsFitHand f e ty j) (out j)
  sent_fits_by q to j here others is = elim (cases_eq j to) [
    | inl same ↦
        subst (λ x. AllByRecursion (IsFitHand f e ty x) (out x)) (sym same)
        (hands_all (RealFits f e ty to) (out to) (subst (AllByRecursion (RealFits f e ty to)) (sym here) (is, tt)))
    | inr n ↦ nothing_fits j (others j n)
  ]

  out_fits : (m : Handles_it) → StillFits f frame e ty k s i t sent out items m → IsFitReal f e ty k (real_in s) →
      ((r : RealView) (bs : Option Boundaries) → i ≡ Some (Hand r bs) → RealFits f e ty k r) → (j : ℕ) → AllByRecursion
      (IsFitHand f e ty j) (out j)
  out_fits (still a b c) fit here hand j = nothing_fits j (c j)
  out_fits (turns r q a b c d o) fit here hand j = nothing_fits j (o j)
  out_fits (lands r q a b c o) fit here hand j = nothing_fits j (o j)
  out_fits (leaves r q to a b c d o) fit here hand j = sent_fits_by q to j o.here o.others (fit (here r a))
  out_fits (relays r q to a b c o) fit here hand j = sent_fits_by q to j o.here o.others
      (fit (hand r (came_hand i r a).0 (came_hand i r a).1))

-- ---- an event

module _ (f : Frame) (frame : IsFrame f) (e ty : ℕ) (known : ty < length f.defs) (w : World) (v : Event) (o : Occurs w v)
    (has : HasOne f e ty w) (calm : letter_in (mine e) o.input ≡ Some (Reap e) → ⊥) where
  -- a hand-over that comes has small numbers, and no Reap comes
  abbrev Came : Option Msg → Type 0
  Came i = ((r : RealView) (bs : Option Boundaries) → i ≡ Some (Hand r bs) → real_burden r < limit) × (i ≡ Some (Reap e) → ⊥)

  abbrev next : World
  next = happens node_steps w v

  pub goes : Goes (λ k s i t out. MovesTo f e k s i t out × Came i) (entity_flow e w) (entity_flow e next)
  goes = event_moves_with f w v o has.fits.frame e (λ s i. Came i) (came_small f e w v o has.fits.frame has.fits.room, calm)

  abbrev node : ℕ
  node = goes.k

  abbrev letter : Option Msg
  letter = comes goes.input

  hand_fits : (r : RealView) (bs : Option Boundaries) → letter ≡ Some (Hand r bs) → RealFits f e ty node r
  hand_fits r bs is = (came (λ a k m. IsFitHand f e ty k m) goes (Hand r bs) is has.fits.hands).1 r bs refl

  free_by : (p : TokenPlace) (a : ℕ) → p ≡ On a node → Sole real_in real_of (entity_flow e w) p has.real → real_at e w node ≡ None
  free_by p a is one = let s = subst (λ x. Sole real_in real_of (entity_flow e w) x has.real) is one in s.slots node

  pub room : (r : RealView) (bs : Option Boundaries) → letter ≡ Some (Hand r bs) → FindsRoom f node ((entity_flow e w).slot node) r
  room r bs is =
      let c = sole_came real_in real_of goes has.place has.real r has.one (ap (carried_in real_of) is) in
      let fits = hand_fits r bs is in
      let low = fits.home in
      let most = frame.tree.cells_to in
      record {
        cell = omega (arith, low, most);
        free = free_by has.place c.0 c.1 has.one;
        may = λ tree of. may_land f frame e ty node tree of r known fits (goes.moves.1.0 r bs is);
      }

  what : Handled f frame e ty node ((entity_flow e w).slot node) letter ((entity_flow e next).slot node) goes.moves.0.sent goes.out
      goes.moves.0.items
  what =
      handled f frame e ty node ((entity_flow e w).slot node) letter ((entity_flow e next).slot node) goes.moves.0.sent goes.out
      goes.moves.0.items room (λ r h. goes.moves.1.1) goes.moves.0.moves

  fits_next : AllFits f e ty next
  fits_next =
      let eased = burden_happens f e w v o has.fits.frame in
      let few = has.fits.room in
      record {
        frame = frame_happens f w v o has.fits.frame;
        reals = slots_kept (λ k s. IsFitReal f e ty k (real_in s)) goes has.fits.reals
            (slot_fits f frame e ty node _ letter _ goes.moves.0.sent goes.out goes.moves.0.items what.0 what.1 (has.fits.reals node)
            hand_fits);
        hands = letters_kept (λ a k m. IsFitHand f e ty k m) goes has.fits.hands
            (out_fits f frame e ty node _ letter _ goes.moves.0.sent goes.out goes.moves.0.items what.0 what.1 (has.fits.reals node)
            hand_fits);
        room = omega (arith, eased, few);
      }

  either_replays : (q : RealView) → (q ≡ has.real) ⊎ Replays f has.real q → Replays f has.real q
  either_replays q (inl same) = subst (Replays f has.real) (sym same) (replays_none f has.real)
  either_replays q (inr a) = a

  -- the one real after the event, and what it is of the one before
  pub one_happens : OneFrom f e ty has.real next
  one_happens = record {
    has = record {
      fits = fits_next;
      place = place_after node what.0 has.place;
      real = token_after what.0 has.real;
      one = sole_goes real_in real_of (Replays f) goes has.place has.real has.one what.0;
    };
    replays =
        either_replays (token_after what.0 has.real) (token_turns real_in real_of (Replays f) goes has.place has.real has.one what.0);
  }

-- ---- a run without a Reap

reap_by : (e : ℕ) (i : Input Msg) → reaps e (Some i) ≡ false → letter_in (mine e) i ≡ Some (Reap e) → ⊥
reap_by e Task h is = cc
reap_by e (From a m) h is = mine_by (concerns e m) refl is
  where
    mine_by : (b : Bool) → concerns e m ≡ b → kept_if b m ≡ Some (Reap e) → ⊥
    mine_by true c at =
        let same : m ≡ Reap e = cc in
        let yes : reaps e (Some (From a m)) ≡ true =
        ap (λ x. reaps e (Some (From a x))) same ∙ (ap (concerns e) (sym same) ∙ c) in
        let both = sym yes ∙ h in
        cc
    mine_by false c at = cc

module _ (f : Frame) (frame : IsFrame f) (e ty : ℕ) (known : ty < length f.defs) where
  pub one_until : (w : World) (es : List Event) (h : HasOne f e ty w) → AllEnabled node_has_work node_steps w es → NoReapComes e w es →
      OneFrom f e ty h.real (run node_steps w es)
  one_until w [] h on calm = record { has = h; replays = replays_none f h.real }
  one_until w (v ∷ es) h on calm =
      let o = occurs node_has_work w v on.0 in
      let none : reaps e (Some o.input) ≡ false = sym (ap (reaps e) o.is_fed) ∙ calm.0 in
      let more = one_happens f frame e ty known w v o h (reap_by e o.input none) in
      let rest = one_until (happens node_steps w v) es more.has on.1 calm.1 in
      record { has = rest.has; replays = replays_on f h.real more.has.real rest.has.real more.replays rest.replays }

-- ---- a run of an entity that no one reaps

-- it is spared after an event too
module _ (f : Frame) (e : ℕ) (w : World) (v : Event) (o : Occurs w v) (q : IsInFrame f w) (spared : IsSpared e w) where
  abbrev Fed : Option Msg → Type 0
  Fed i = i ≡ letter_in (mine e) o.input

  flows : Goes (λ k s i t out. MovesTo f e k s i t out × Fed i) (entity_flow e w) (entity_flow e (happens node_steps w v))
  flows = event_moves_with f w v o q e (λ s i. Fed i) refl

  pub calm_of : letter_in (mine e) o.input ≡ Some (Reap e) → ⊥
  calm_of h = let none = (came (λ a k m. reaped_by m ≡ None) flows (Reap e) (flows.moves.1 ∙ h) spared.letters).1 in cc

  pub spared_happens : IsSpared e (happens node_steps w v)
  spared_happens = record {
    orders =
        slots_kept (λ k s. HasNoReaps s) flows spared.orders
        (orders_spared f e flows.k _ (comes flows.input) _ flows.moves.0.sent (spared.orders flows.k) flows.moves.0.moves);
    letters =
        sent_kept (λ a k m. reaped_by m ≡ None) flows flows.moves.0.sent flows.moves.0.items spared.letters
        (sent_spared f e flows.k _ (comes flows.input) _ flows.moves.0.sent (spared.orders flows.k) flows.moves.0.moves);
  }

-- and after every list of events
pub spared_leads : (f : Frame) (e : ℕ) → FramedKeep f (IsSpared e)
spared_leads f e = run_keeps f (IsSpared e) (spared_happens f e)

module _ (f : Frame) (frame : IsFrame f) (e ty : ℕ) (known : ty < length f.defs) where
  -- the one real is the first one after further calls, and no one reaps it
  pub record Spared (start : RealView) (w : World) : Type 0 where
    pub one : OneFrom f e ty start w
    pub spared : IsSpared e w

  pub spared_keeps : (start : RealView) → EachKeeps (Spared start)
  spared_keeps start w v o h =
      let has = h.one.has in
      let more = one_happens f frame e ty known w v o has (calm_of f e w v o has.fits.frame h.spared) in
      record {
        one = record { has = more.has; replays = replays_on f start has.real more.has.real h.one.replays more.replays };
        spared = spared_happens f e w v o has.fits.frame h.spared;
      }

  -- after every list of events
  pub one_leads : (w v : World) (es : List Event) (h : HasOne f e ty w) → IsSpared e w → RunsTo w es v → OneFrom f e ty h.real v
  one_leads w v es h spared run =
      (runs_keep (Spared h.real) (spared_keeps h.real) w v es
      (record { one = record { has = h; replays = replays_none f h.real }; spared = spared }) run).one

-- a fact of worlds with the one real, which no one reaps, and which each event keeps
module _ (f : Frame) (frame : IsFrame f) (e ty : ℕ) (known : ty < length f.defs) (I : World → Type 0) where
  abbrev pub OneKeeps : Type 0
  OneKeeps = (w : World) (v : Event) (o : Occurs w v) → HasOne f e ty w → IsSpared e w →
      (letter_in (mine e) o.input ≡ Some (Reap e) → ⊥) → I w → I (happens node_steps w v)

  pub one_keeps : OneKeeps → (w v : World) (es : List Event) → HasOne f e ty w → IsSpared e w → RunsTo w es v → I w → I v
  one_keeps keep w v es has spared run fact =
      (run_keeps f (λ x. HasOne f e ty x × IsSpared e x × I x) (λ x a o q h.
      let calm = calm_of f e x a o q h.1 in
      ((one_happens f frame e ty known x a o h.0 calm).has, spared_happens f e x a o q h.1, keep x a o h.0 h.1 calm h.2)) w v es
      has.fits.frame (has, spared, fact) run).2
