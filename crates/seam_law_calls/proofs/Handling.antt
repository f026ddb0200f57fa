-- What each move does with the entity's real: it stays as it is, is turned into what calls make of it, lands, or leaves.
use Rattle.seam_law_calls.proofs.Prelude.{◌≡◌, ℕ, ◌+◌, ◌<◌, ◌≤◌, Bool, true, List, [], ◌∷◌, Option, None, Some, refl, sym, ap, ◌∙◌, subst}
use Rattle.seam_law_calls.proofs.Prelude.{arith, inl, inr, Division, items_to, RealView, Boundaries, Msg, Hand, Reap}
use Rattle.seam_law_calls.proofs.Prelude.{cell_count, base_numbers, base_of, with_offer, settled_to, SlotStep, slot_after}
use Rattle.seam_law_calls.proofs.Prelude.{haunts_at, ghost_messages, beat_after, current_to, is_stray, may_come, shown_of, looks_with}
use Rattle.seam_law_calls.proofs.Prelude.{letters_of, IsSilent, carried_in, SendsNone, Handles, still, turns, lands, leaves}
use Rattle.seam_law_calls.proofs.Prelude.{relays, Frame, IsTreeOf, here_at, IsFrame, Has, AtCell, Does, Acts, surveys, calls, readies}
use Rattle.seam_law_calls.proofs.Prelude.{BaseMoves, Moves, at_a_cell, at_a_base, Replays, RealFits, real_in, real_of, sees_none}
use Rattle.seam_law_calls.proofs.Prelude.{sees_after_silent, sees_one_here, sees_one_there}
use Rattle.std.specs.FinSet as set
use Rattle.seam_entity.specs.declared.message.Msg.TheVariants.{Call}
use Rattle.seam_node_steps.specs.Settle as settle
use Rattle.seam_law_calls.proofs.CellDeeds as deed
use Rattle.seam_law_calls.proofs.CellDeeds.{CellDeeds, cell_deeds, not_handed}
use Rattle.seam_law_calls.proofs.BaseSilent.{sees_no_real, base_silent}
use Rattle.seam_law_calls.proofs.Holds.{not_both}
use Rattle.seam_law_calls.proofs.Plain.{SeesNoGhost, ghosts_silent, mapped_silent, numbered_silent}
use Rattle.seam_law_calls.proofs.Replaying.{acts_replays}
use Rattle.seam_law_calls.proofs.RealsKept.{executed_fits, held_fits, ready_fits, settled_fits, home_is_low}
use Rattle.seam_node_steps.specs.Prelude.{at_start}

pub reals_unseen : SeesNoGhost real_of
reals_unseen = record { sets = λ e n c. refl; drops = λ e n. refl }

-- what a hand-over finds where it comes: a cell without the real, which may take it by each of the trees
pub record FindsRoom (f : Frame) (k : ℕ) (s : Has) (r : RealView) : Type 0 where
  pub cell : k < cell_count
  pub free : real_in s ≡ None
  pub may : (tree : Division) → IsTreeOf f tree → may_come (here_at f k) tree r ≡ true

-- so it is not stray
pub not_stray : (f : Frame) (k : ℕ) (s : Has) (r : RealView) → FindsRoom f k s r → (tree : Division) → IsTreeOf f tree →
    is_stray (here_at f k) tree s.cell.slot (Hand r None) ≡ true → ⊥
not_stray f k s r p tree of stray =
    not_both (may_come (here_at f k) tree r) (p.may tree of)
    (sym (ap (λ o. is_stray (here_at f k) tree (record { real = o; next = s.cell.slot.next; ghost = s.cell.slot.ghost })
    (Hand r None)) p.free)
    ∙ stray)

module _ (f : Frame) (frame : IsFrame f) (e ty k : ℕ) (s : Has) (i : Option Msg) (t : Has) (sent : List (ℕ × Msg)) (out : ℕ →
    List Msg) (items : (j : ℕ) → out j ≡ items_to j sent) where
  abbrev pub Does_it : Type 0
  Does_it = Handles real_in real_of (Replays f) s i t out

  -- a real that fitted still fits, where it is now
  abbrev pub StillFits : Does_it → Type 0
  StillFits (still a b c) = Unit {0}
  StillFits (turns r q a b c d o) = RealFits f e ty k r → RealFits f e ty k q
  StillFits (lands r q a b c o) = RealFits f e ty k r → RealFits f e ty k q
  StillFits (leaves r q to a b c d o) = RealFits f e ty k r → RealFits f e ty to q
  StillFits (relays r q to a b c o) = RealFits f e ty k r → RealFits f e ty to q

  abbrev pub Handled : Type 0
  Handled = (m : Does_it) × StillFits m

  sends_none : IsSilent real_of sent → SendsNone real_of out
  sends_none h j = ap (letters_of real_of) (items j) ∙ sees_none real_of j sent h

  rests : real_in t ≡ real_in s → carried_in real_of i ≡ None → IsSilent real_of sent → Handled
  rests same none silent = (still same none (sends_none silent), tt)

  acts_none : (u : AtCell) (r q : RealView) (changed : Bool) → Acts (here_at f k) e s.cell i r u q changed → carried_in real_of i ≡ None
  acts_none u r q changed (surveys n a b c) = ap (carried_in real_of) a
  acts_none u r q changed (calls c a b d g) = ap (carried_in real_of) a
  acts_none u r q changed (readies o c a b d g) = ap (carried_in real_of) a

  acts_fit : (u : AtCell) (r q : RealView) (changed : Bool) → Acts (here_at f k) e s.cell i r u q changed → RealFits f e ty k r →
      RealFits f e ty k q
  acts_fit u r q changed (surveys n a b c) is = is
  acts_fit u r q changed (calls c a b d g) is = executed_fits f frame.defs e ty k r c is d
  acts_fit u r q changed (readies o c a b d g) is = ready_fits f frame.defs e ty k r o c is d g

  settled_replays : (u : AtCell) (r q : RealView) (changed : Bool) (haunts : _) (beat generation : ℕ) →
      Acts (here_at f k) e s.cell i r u q changed → Replays f r (settled_to q haunts beat generation)
  settled_replays u r q changed haunts beat generation a =
      let p = acts_replays f k e s.cell u i r q changed a in
      record { further = p.further; entity = p.entity; type = p.type; account = p.account }

  module _ (x : SlotStep) (u : AtCell) (d : Does u x t.cell sent) where
    real_is : real_in t ≡ (slot_after x.slot u.slot).real
    real_is = ap (λ a. a.slot.real) d.state

    silent_of : IsSilent real_of x.sent → IsSilent real_of sent
    silent_of h = subst (IsSilent real_of) (sym d.sends) h

  none_of : i ≡ None → carried_in real_of i ≡ None
  none_of h = ap (carried_in real_of) h

  came_none : (m : Msg) → i ≡ Some m → real_of m ≡ None → carried_in real_of i ≡ None
  came_none m h n = ap (carried_in real_of) h ∙ n

  none_handed : (j : Option Msg) → i ≡ j → ((r : RealView) (bs : Option Boundaries) → i ≡ Some (Hand r bs) → ⊥) → carried_in real_of i
      ≡ None
  none_handed (Some (Hand r bs)) is never = absurd (never r bs is)
  none_handed None is never = ap (carried_in real_of) is
  none_handed (Some m) is never = ap (carried_in real_of) is

  -- ---- a cell

  module _ (tree : Division) (of : IsTreeOf f tree) where
    -- a settling that stays
    stays_handled : (u : AtCell) (r q : RealView) (changed : Bool) → real_in s ≡ Some r → Acts (here_at f k) e s.cell i r u q changed →
        Does u (settle.stays (here_at f k) tree s.cell.slot q changed) t.cell sent → Handled
    stays_handled u r q changed has acts d =
        let haunts = haunts_at (here_at f k) tree q.state.pos k q.haunts in
        let told = ghost_messages (here_at f k) q k haunts changed in
        let beat = beat_after told q.beat in (
          turns r (settled_to q haunts beat q.generation) has
              (real_is (settle.stays (here_at f k) tree s.cell.slot q changed) u d)
              (inr (settled_replays u r q changed haunts beat q.generation acts)) (acts_none u r q changed acts)
              (sends_none (silent_of (settle.stays (here_at f k) tree s.cell.slot q changed) u d
              (ghosts_silent real_of reals_unseen (here_at f k) q k haunts changed))),
          λ is. settled_fits f frame tree of e ty k q k k q.haunts beat q.generation (acts_fit u r q changed acts is) is.home,
        )

    -- a settling that goes
    goes_handled : (u : AtCell) (r q : RealView) (changed : Bool) (j : ℕ) → real_in s ≡ Some r →
        Acts (here_at f k) e s.cell i r u q changed → settle.home_after (here_at f k) tree q.state.pos ≡ j →
        Does u (settle.goes (here_at f k) (at_start tree) s.cell.slot q changed j) t.cell sent → Handled
    goes_handled u r q changed j has acts at d =
        let old = set.insert q.haunts k in
        let haunts = haunts_at (here_at f k) tree q.state.pos j old in
        let told = ghost_messages (here_at f k) q j haunts changed in
        let gone = settled_to q haunts (q.beat + 1) (q.generation + 1) in
        let silent = ghosts_silent real_of reals_unseen (here_at f k) q j haunts changed in (
          leaves r gone j has (real_is (settle.goes (here_at f k) (at_start tree) s.cell.slot q changed j) u d)
              (inr (settled_replays u r q changed haunts (q.beat + 1) (q.generation + 1) acts)) (acts_none u r q changed acts)
              (record {
                here =
                    ap (letters_of real_of) (items j ∙ ap (items_to j) d.sends)
                    ∙ (sees_after_silent real_of j told ((j, Hand gone None) ∷ []) silent ∙ sees_one_here real_of j (Hand gone None));
                others = λ x n.
                    ap (letters_of real_of) (items x ∙ ap (items_to x) d.sends)
                    ∙ (sees_after_silent real_of x told ((j, Hand gone None) ∷ []) silent ∙ sees_one_there real_of j x (Hand gone None) n);
              }),
          λ is.
              let fits = acts_fit u r q changed acts is in
              settled_fits f frame tree of e ty k q j j old (q.beat + 1) (q.generation + 1) fits
              (home_is_low f frame tree of k q.state.pos j at is.home),
        )

    cell_handled : ((r : RealView) (bs : Option Boundaries) → i ≡ Some (Hand r bs) → FindsRoom f k s r) →
        ((r : RealView) → real_in s ≡ Some r → i ≡ Some (Reap e) → ⊥) →
        CellDeeds (here_at f k) tree e s.cell i t.cell sent → Handled
    cell_handled room spared (deed.idles a z) =
        rests a.real (none_handed i refl (λ r bs is. not_stray f k s r (room r bs is) tree of (not_handed a.why r bs is)))
        (subst (IsSilent real_of) (sym z) tt)
    cell_handled room spared (deed.stays u r q changed has own acts at d) = stays_handled u r q changed has acts d
    cell_handled room spared (deed.goes u r q changed j has own acts at n d) = goes_handled u r q changed j has acts at d
    cell_handled room spared (deed.holds c r n is has own may lt d) = (
      turns r (with_offer r c) has (real_is _ s.cell d) (inr (record { further = []; entity = refl; type = refl; account = refl }))
          (came_none (Call c) n refl) (sends_none (silent_of _ s.cell d tt)),
      λ fits. held_fits f frame.defs e ty k r c fits may,
    )
    cell_handled room spared (deed.passes c p n is has at d) =
        rests (real_is _ s.cell d) (came_none (Call c) n refl) (silent_of _ s.cell d (refl, tt))
    cell_handled room spared (deed.lands r bs n is has may d) = (
      lands r r (ap (carried_in real_of) n) (real_is _ s.cell d) (inl refl)
          (sends_none (silent_of _ s.cell d (mapped_silent real_of (current_to (here_at f k) r) (λ b. refl) (base_numbers (here_at f k))))),
      λ fits. fits,
    )
    cell_handled room spared (deed.reaped r n has own may d) = absurd (spared r has n)
    cell_handled room spared (deed.looks n r w known h at has own is small d) = (
      turns r _ has (real_is (looks_with (here_at f k) s.cell.slot r w known (shown_of (here_at f k) r w known)) _ d)
          (inr (record { further = []; entity = refl; type = refl; account = refl })) (none_of h)
          (sends_none (silent_of (looks_with (here_at f k) s.cell.slot r w known (shown_of (here_at f k) r w known)) _ d
          (numbered_silent real_of (base_of (here_at f k) r.entity) r.entity w.sent _ (λ u. refl)))),
      λ fits. record {
        entity = fits.entity;
        type = fits.type;
        values = fits.values;
        inside = fits.inside;
        held = fits.held;
        home = fits.home;
        haunts = fits.haunts;
      },
    )

  -- ---- a base node

  base_handled : cell_count ≤ k → ((r : RealView) (bs : Option Boundaries) → i ≡ Some (Hand r bs) → FindsRoom f k s r) → (cells : ℕ) →
      BaseMoves (here_at f k) cells e s.base i t.base sent → real_in t ≡ real_in s → Handled
  base_handled high room cells m same =
      rests same (none_handed i refl (λ r bs is. let low = (room r bs is).cell in omega (arith, low, high)))
      (base_silent real_of sees_no_real _ cells e _ i _ sent m)

  pub handled : ((r : RealView) (bs : Option Boundaries) → i ≡ Some (Hand r bs) → FindsRoom f k s r) →
      ((r : RealView) → real_in s ≡ Some r → i ≡ Some (Reap e) → ⊥) →
      Moves f e k s i t sent → Handled
  handled room spared (at_a_cell tree of low m same) = cell_handled tree of room spared (cell_deeds m)
  handled room spared (at_a_base high m same) = base_handled high room _ m (ap (λ c. c.slot.real) same)
