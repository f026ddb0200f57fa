-- What each move does with the place of the entity's real: it stays, settles in its cell, lands, or settles and leaves.
use Rattle.seam_law_ghosts.proofs.Prelude.{◌≡◌, ℕ, ◌+◌, ◌≤◌, ◌⊎◌, Bool, true, List, [], ◌∷◌, ◌++◌, Option, None, Some, refl, sym, ap, ◌∙◌}
use Rattle.seam_law_ghosts.proofs.Prelude.{subst, arith, inl, inr, Pos, Division, Cells, Place, after, type_of, items_to, Call as CallData}
use Rattle.seam_law_ghosts.proofs.Prelude.{RealView, Msg, Hand, Reap, cell_count, may_settle, settled_to}
use Rattle.seam_law_ghosts.proofs.Prelude.{SlotStep, slot_after, home_after, haunts_at, ghost_messages, beat_after, stray_survey}
use Rattle.seam_law_ghosts.proofs.Prelude.{letters_of, carried_in, Handles, still, turns, lands, leaves, relays, Frame, IsTreeOf, here_at}
use Rattle.seam_law_ghosts.proofs.Prelude.{IsFrame, Has, AtCell, Does, Acts, surveys, calls, readies, Moves, at_a_cell}
use Rattle.seam_law_ghosts.proofs.Prelude.{at_a_base, Replays, real_in, real_of, distances_of, place_of, settled, haunts_without_home}
use Rattle.seam_law_ghosts.proofs.Prelude.{sees_none, sees_after_silent, sees_one_here, sees_one_there, FindsRoom, not_stray, reals_unseen}
use Rattle.seam_law_ghosts.proofs.Prelude.{handled, not_both, came_hand, first_tree, ghosts_silent, acts_replays, unlisted_if}
use Rattle.std.specs.FinSet as set
use Rattle.seam_entity.specs.declared.message.Msg.TheVariants.{Call}
use Rattle.seam_node_steps.specs.Settle as settle
use Rattle.seam_law_calls.proofs.CellDeeds as deed
use Rattle.seam_law_calls.proofs.CellDeeds.{CellDeeds, cell_deeds, not_handed}
use Rattle.seam_node_steps.specs.Prelude.{Boundaries}
use Rattle.seam_node_steps.specs.Prelude.{at_start}

-- ---- what becomes of a real and its place

-- it is at the same place, and executed nothing
pub record IsAlike (r q : RealView) : Type 0 where
  pub done : q.done ≡ r.done
  pub state : q.state ≡ r.state
  pub haunts : q.haunts ≡ r.haunts

-- the real r of cell k settled by that tree, as q in cell j: it executed nothing before, or a call
pub data Settles (f : Frame) (tree : Division) (k j : ℕ) (r q : RealView) : Type 0 where
  by_survey : q.done ≡ r.done → q.state ≡ r.state
      → place_of j q ≡ settled (distances_of f.settings) tree (place_of k r) q.state.pos → Settles f tree k j r q
  by_call : (c : CallData) → q.done ≡ r.done ++ c ∷ [] → q.state ≡ after (type_of f.defs r.ty) r.state c.deed
      → place_of j q ≡ settled (distances_of f.settings) tree (place_of k r) q.state.pos → Settles f tree k j r q

-- what cell k, by that tree, does with the place of the real
module _ (f : Frame) (tree : Division) (k : ℕ) (s : Has) (i : Option Msg) (t : Has) (out : ℕ → List Msg) where
  -- the survey list still has the entity if it had it
  abbrev pub StaysDue : Type 0
  StaysDue = 1 ≤ s.cell.survey → 1 ≤ t.cell.survey

  abbrev pub PlacesBy : Handles real_in real_of (Replays f) s i t out → Type 0
  PlacesBy (still a b c) = (r : RealView) → real_in s ≡ Some r → StaysDue
  PlacesBy (turns r q a b c d o) = (IsAlike r q × StaysDue) ⊎ Settles f tree k k r q
  PlacesBy (lands r q a b c o) = q ≡ r
  PlacesBy (leaves r q to a b c d o) = Settles f tree k to r q
  PlacesBy (relays r q to a b c o) = ⊥

  abbrev pub Placed : Type 0
  Placed = (m : Handles real_in real_of (Replays f) s i t out) × PlacesBy m

-- in cell j with the haunts `now`, the real that was in cell k with the haunts `old` is settled at that position by that tree
abbrev AreSettled : Frame → Division → ℕ → Pos → ℕ → Cells → Cells → Type 0
AreSettled f tree k p j now old =
    let place : Place = record { home = j; ghosts = now } in
    place ≡ settled (distances_of f.settings) tree (record { home = k; ghosts = old }) p

module _ (f : Frame) (tree : Division) (k : ℕ) (p : Pos) where
  abbrev haunts_in : ℕ → Cells → Cells
  haunts_in j old = haunts_at (here_at f k) tree p j old

  -- one that stays, and one that goes
  stays_settled : (old : Cells) → home_after (here_at f k) tree p ≡ k → AreSettled f tree k p k (haunts_in k old) old
  stays_settled old at =
      ap (λ s. let place : Place = record { home = k; ghosts = s } in place) (sym (haunts_without_home p k tree f.settings.ghost_distance
      (f.settings.ghost_distance + f.settings.ghost_hysteresis) old))
      ∙ ap (λ j. let place : Place = record { home = j; ghosts = haunts_in j (set.insert old k) } in place) (sym at)

  goes_settled : (old : Cells) (j : ℕ) → home_after (here_at f k) tree p ≡ j → AreSettled f tree k p j (haunts_in j (set.insert old k)) old
  goes_settled old j at = ap (λ i. let place : Place = record { home = i; ghosts = haunts_in i (set.insert old k) } in place) (sym at)

module _ (f : Frame) (tree : Division) (e k : ℕ) (s : Has) (i : Option Msg) (t : Has) (sent : List (ℕ × Msg)) (out : ℕ → List Msg)
    (items : (j : ℕ) → out j ≡ items_to j sent) where
  abbrev Does_it : Type 0
  Does_it = Handles real_in real_of (Replays f) s i t out

  abbrev Due : Type 0
  Due = StaysDue f tree k s i t out

  abbrev Its : Type 0
  Its = Placed f tree k s i t out

  -- ---- the real stays at its place

  abbrev StaysAlike : Type 0
  StaysAlike = (r : RealView) → real_in s ≡ Some r → (q : RealView) × (real_in t ≡ Some q) × IsAlike r q

  alike : Does_it → carried_in real_of i ≡ None → StaysAlike → ((r : RealView) → real_in s ≡ Some r → Due) → Its
  alike (still a b c) none stays due = (still a b c, due)
  alike (turns r q a b c d o) none stays due =
      let x = stays r a in
      let same : x.0 ≡ q = let z = sym x.1 ∙ b in cc in
      (turns r q a b c d o, inl (subst (IsAlike r) same x.2, due r a))
  alike (lands r q a b c o) none stays due = absurd (let z = sym none ∙ a in cc)
  alike (leaves r q to a b c d o) none stays due = let x = stays r a in absurd (let z = sym x.1 ∙ b in cc)
  alike (relays r q to a b c o) none stays due = absurd (let z = sym none ∙ a in cc)

  alike_one : (r q : RealView) → real_in s ≡ Some r → real_in t ≡ Some q → IsAlike r q → StaysAlike
  alike_one r q has now is x at = let one : r ≡ x = let z = sym has ∙ at in cc in (q, now, subst (λ y. IsAlike y q) one is)

  same : Does_it → carried_in real_of i ≡ None → real_in t ≡ real_in s → ((r : RealView) → real_in s ≡ Some r → Due) → Its
  same m none is due = alike m none (λ r has. (r, is ∙ has, record { done = refl; state = refl; haunts = refl })) due

  none_of : i ≡ None → carried_in real_of i ≡ None
  none_of h = ap (carried_in real_of) h

  came_none : (m : Msg) → i ≡ Some m → real_of m ≡ None → carried_in real_of i ≡ None
  came_none m h n = ap (carried_in real_of) h ∙ n

  -- ---- it lands

  lands_by : Does_it → (r : RealView) (bs : Option Boundaries) → i ≡ Some (Hand r bs) → real_in s ≡ None → real_in t ≡ Some r → Its
  lands_by (still a b c) r bs is free at = absurd (let z = sym (ap (carried_in real_of) is) ∙ b in cc)
  lands_by (turns x q a b c d o) r bs is free at = absurd (let z = sym free ∙ a in cc)
  lands_by (lands x q a b c o) r bs is free at =
      let was : r ≡ x = let z = sym (ap (carried_in real_of) is) ∙ a in cc in
      let now : r ≡ q = let z = sym at ∙ b in cc in
      (lands x q a b c o, sym now ∙ was)
  lands_by (leaves x q to a b c d o) r bs is free at = absurd (let z = sym free ∙ a in cc)
  lands_by (relays x q to a b c o) r bs is free at = absurd (let z = sym at ∙ (b ∙ free) in cc)

  -- ---- it settles

  acts_none : (u : AtCell) (r q : RealView) (changed : Bool) → Acts (here_at f k) e s.cell i r u q changed → carried_in real_of i ≡ None
  acts_none u r q changed (surveys n a b c) = none_of a
  acts_none u r q changed (calls c a b d g) = came_none (Call c) a refl
  acts_none u r q changed (readies o c a b d g) = none_of a

  acts_settle : (u : AtCell) (r q : RealView) (changed : Bool) → Acts (here_at f k) e s.cell i r u q changed → (j : ℕ) (haunts : Cells)
      (beat generation : ℕ) → AreSettled f tree k q.state.pos j haunts q.haunts →
      Settles f tree k j r (settled_to q haunts beat generation)
  acts_settle u r q changed (surveys n a b c) j haunts beat generation is = by_survey refl refl is
  acts_settle u r q changed (calls c a b d g) j haunts beat generation is = by_call c refl refl is
  acts_settle u r q changed (readies o c a b d g) j haunts beat generation is = by_call c refl refl is

  settled_replays : (u : AtCell) (r q : RealView) (changed : Bool) (haunts : Cells) (beat generation : ℕ) →
      Acts (here_at f k) e s.cell i r u q changed → Replays f r (settled_to q haunts beat generation)
  settled_replays u r q changed haunts beat generation a =
      let x = acts_replays f k e s.cell u i r q changed a in
      record { further = x.further; entity = x.entity; type = x.type; account = x.account }

  module _ (x : SlotStep) (u : AtCell) (d : Does u x t.cell sent) where
    real_is : real_in t ≡ (slot_after x.slot u.slot).real
    real_is = ap (λ a. a.slot.real) d.state

    due_is : t.cell.survey ≡ unlisted_if x.unlisted u.survey
    due_is = ap (λ a. a.survey) d.state

  still_due : t.cell.survey ≡ s.cell.survey → (r : RealView) → real_in s ≡ Some r → Due
  still_due is r has some = omega (arith, is, some)

  stays_placed : (u : AtCell) (r q : RealView) (changed : Bool) → real_in s ≡ Some r → Acts (here_at f k) e s.cell i r u q changed →
      home_after (here_at f k) tree q.state.pos ≡ k → Does u (settle.stays (here_at f k) tree s.cell.slot q changed) t.cell sent → Its
  stays_placed u r q changed has acts at d =
      let haunts = haunts_at (here_at f k) tree q.state.pos k q.haunts in
      let told = ghost_messages (here_at f k) q k haunts changed in
      let beat = beat_after told q.beat in (
        turns r (settled_to q haunts beat q.generation) has
            (real_is (settle.stays (here_at f k) tree s.cell.slot q changed) u d)
            (inr (settled_replays u r q changed haunts beat q.generation acts)) (acts_none u r q changed acts)
            (λ j.
            ap (letters_of real_of) (items j ∙ ap (items_to j) d.sends)
            ∙ sees_none real_of j told (ghosts_silent real_of reals_unseen (here_at f k) q k haunts changed)),
        inr (acts_settle u r q changed acts k haunts beat q.generation (stays_settled f tree k q.state.pos q.haunts at)),
      )

  goes_placed : (u : AtCell) (r q : RealView) (changed : Bool) (j : ℕ) → real_in s ≡ Some r →
      Acts (here_at f k) e s.cell i r u q changed → home_after (here_at f k) tree q.state.pos ≡ j →
      Does u (settle.goes (here_at f k) (at_start tree) s.cell.slot q changed j) t.cell sent → Its
  goes_placed u r q changed j has acts at d =
      let haunts = haunts_at (here_at f k) tree q.state.pos j (set.insert q.haunts k) in
      let told = ghost_messages (here_at f k) q j haunts changed in
      let gone = settled_to q haunts (q.beat + 1) (q.generation + 1) in
      let silent = ghosts_silent real_of reals_unseen (here_at f k) q j haunts changed in (
        leaves r gone j has (real_is (settle.goes (here_at f k) (at_start tree) s.cell.slot q changed j) u d)
            (inr (settled_replays u r q changed haunts (q.beat + 1) (q.generation + 1) acts)) (acts_none u r q changed acts)
            (record {
              here =
                  ap (letters_of real_of) (items j ∙ ap (items_to j) d.sends)
                  ∙ (sees_after_silent real_of j told ((j, Hand gone None) ∷ []) silent ∙ sees_one_here real_of j (Hand gone None));
              others = λ x n.
                  ap (letters_of real_of) (items x ∙ ap (items_to x) d.sends)
                  ∙ (sees_after_silent real_of x told ((j, Hand gone None) ∷ []) silent ∙ sees_one_there real_of j x (Hand gone None) n);
            }),
        acts_settle u r q changed acts j haunts (q.beat + 1) (q.generation + 1) (goes_settled f tree k q.state.pos q.haunts j at),
      )

  -- ---- every move

  module _ (of : IsTreeOf f tree) (room : (r : RealView) (bs : Option Boundaries) → i ≡ Some (Hand r bs) → FindsRoom f k s r)
      (spared : (r : RealView) → real_in s ≡ Some r → i ≡ Some (Reap e) → ⊥)
      (may : (r : RealView) → real_in s ≡ Some r → 1 ≤ s.cell.survey → may_settle r ≡ true) where
    none_handed : (j : Option Msg) → i ≡ j → ((r : RealView) (bs : Option Boundaries) → i ≡ Some (Hand r bs) → ⊥) → carried_in real_of i
        ≡ None
    none_handed (Some (Hand r bs)) is never = absurd (never r bs is)
    none_handed None is never = ap (carried_in real_of) is
    none_handed (Some m) is never = ap (carried_in real_of) is

    cell_placed : Does_it → CellDeeds (here_at f k) tree e s.cell i t.cell sent → Its
    cell_placed m (deed.idles a z) =
        same m (none_handed i refl (λ r bs is. not_stray f k s r (room r bs is) tree of (not_handed a.why r bs is))) a.real
        -- a real that may settle is not taken off the list unsettled
        (λ r has some. elim a.taken [
          | inl kept ↦ omega (arith, kept, some)
          | inr gone ↦ absurd (not_both (may_settle r) (may r has some) (sym (ap stray_survey has) ∙ gone.1))
        ])
    cell_placed m (deed.stays u r q changed has own acts at d) = stays_placed u r q changed has acts at d
    cell_placed m (deed.goes u r q changed j has own acts at n d) = goes_placed u r q changed j has acts at d
    cell_placed m (deed.holds c r n is has own may lt d) =
        alike m (came_none (Call c) n refl)
        (alike_one r _ has (real_is _ s.cell d) (record { done = refl; state = refl; haunts = refl }))
        (still_due (due_is _ s.cell d))
    cell_placed m (deed.passes c p n is has at d) =
        same m (came_none (Call c) n refl) (real_is _ s.cell d) (still_due (due_is _ s.cell d))
    cell_placed m (deed.lands r bs n is has may d) = lands_by m r bs n has (real_is _ s.cell d)
    cell_placed m (deed.reaped r n has own may d) = absurd (spared r has n)
    cell_placed m (deed.looks n r w known h at has own is small d) =
        alike m (none_of h) (alike_one r _ has (real_is _ _ d) (record { done = refl; state = refl; haunts = refl }))
        (still_due (due_is _ _ d))

    -- a base node is fed no real
    base_none : cell_count ≤ k → (o : Option RealView) → carried_in real_of i ≡ o → o ≡ None
    base_none high None is = refl
    base_none high (Some r) is = let low = (room r (came_hand i r is).0 (came_hand i r is).1).cell in absurd (omega (arith, low, high))

    base_placed : Does_it → cell_count ≤ k → t.cell ≡ s.cell → Its
    base_placed m high is =
        same m (base_none high (carried_in real_of i) refl) (ap (λ c. c.slot.real) is) (still_due (ap (λ c. c.survey) is))

-- a move does it by one of the trees
module _ (f : Frame) (frame : IsFrame f) (e ty k : ℕ) (s : Has) (i : Option Msg) (t : Has) (sent : List (ℕ × Msg)) (out : ℕ → List Msg)
    (items : (j : ℕ) → out j ≡ items_to j sent) (room : (r : RealView) (bs : Option Boundaries) → i ≡ Some (Hand r bs) → FindsRoom f k s r)
    (spared : (r : RealView) → real_in s ≡ Some r → i ≡ Some (Reap e) → ⊥)
    (may : (r : RealView) → real_in s ≡ Some r → 1 ≤ s.cell.survey → may_settle r ≡ true) where
  abbrev PlacedByOne : Type 0
  PlacedByOne = (tree : Division) × IsTreeOf f tree × Placed f tree k s i t out

  pub placed : Moves f e k s i t sent → PlacedByOne
  placed moves = placed_by moves (handled f frame e ty k s i t sent out items room spared moves).0
    where
      placed_by : Moves f e k s i t sent → Handles real_in real_of (Replays f) s i t out → PlacedByOne
      placed_by (at_a_cell tree of low x is) m = (tree, of, cell_placed f tree e k s i t sent out items of room spared may m (cell_deeds x))
      placed_by (at_a_base high x is) m =
          (f.tree, first_tree f, base_placed f f.tree e k s i t sent out items (first_tree f) room spared may m high is)
