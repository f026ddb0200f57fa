-- Where no entry of the look list is taken each real keeps its witness, and nothing is told.
use Rattle.seam_law_calls.proofs.Prelude.{◌≡◌, ℕ, ◌+◌, Bool, List, Option, None, Some, refl, sym, ap, ◌∙◌, subst, arith, AllByRecursion}
use Rattle.seam_law_calls.proofs.Prelude.{Division, RealView, WitnessView, Boundaries, Msg, Hand, base_numbers, SlotStep, slot_after}
use Rattle.seam_law_calls.proofs.Prelude.{haunts_at, ghost_messages, current_to, IsSilent, Frame, here_at, Has, AtCell, Does, Acts, surveys}
use Rattle.seam_law_calls.proofs.Prelude.{Moves, at_a_cell, at_a_base, real_in, real_of, update_in, all_append}
use Rattle.std.specs.FinSet as set
use Rattle.seam_law_calls.proofs.CellDeeds as deed
use Rattle.seam_law_calls.proofs.CellDeeds.{CellDeeds, cell_deeds}
use Rattle.seam_law_calls.proofs.Plain.{SeesNoGhost, ghosts_silent, drops_silent, mapped_silent}
use Rattle.seam_law_calls.proofs.BaseSilent.{sees_no_update, sees_no_real, base_silent}
use Rattle.seam_law_calls.proofs.WitnessKept.{OfReal, none_carried, ByWitness}
use Rattle.seam_law_calls.proofs.Looking.{NotTaken, as_often, gone, ticked}

no_update : SeesNoGhost update_in
no_update = record { sets = λ e n c. refl; drops = λ e n. refl }

no_real : SeesNoGhost real_of
no_real = record { sets = λ e n c. refl; drops = λ e n. refl }

abbrev witness_of : Option RealView → Option WitnessView
witness_of None = None
witness_of (Some r) = r.witness

-- neither an update nor a real is sent
abbrev SendsNeither : List (ℕ × Msg) → Type 0
SendsNeither ps = IsSilent update_in ps × IsSilent real_of ps

module _ (P : RealView → Type 0) (by_witness : ByWitness P) (f : Frame) (e k : ℕ) (s : Has) (i : Option Msg) (t : Has)
    (sent : List (ℕ × Msg)) (here : (r : RealView) → real_in s ≡ Some r → P r)
    (comes : (r : RealView) (bs : Option Boundaries) → i ≡ Some (Hand r bs) → P r) where
  -- P is true of each real afterwards, and nothing is told
  pub record Holds : Type 0 where
    pub slot : (r : RealView) → real_in t ≡ Some r → P r
    pub sends : AllByRecursion (λ p. OfReal P p.1) sent
    pub silent : IsSilent update_in sent

  is_now : (x : SlotStep) (u : AtCell) → Does u x t.cell sent → real_in t ≡ (slot_after x.slot u.slot).real
  is_now x u d = ap (λ a. a.slot.real) d.state

  holds : ((r : RealView) → real_in t ≡ Some r → P r) → SendsNeither sent → Holds
  holds slot z = record { slot = slot; sends = none_carried P sent z.1; silent = z.0 }

  of : (x : SlotStep) (u : AtCell) → Does u x t.cell sent → ((r : RealView) → real_in t ≡ Some r → P r) → SendsNeither x.sent →
      Holds
  of x u d slot z = holds slot (subst SendsNeither (sym d.sends) z)

  still : (x : SlotStep) (u : AtCell) → Does u x t.cell sent → (slot_after x.slot u.slot).real ≡ real_in s → SendsNeither x.sent → Holds
  still x u d same z = of x u d (λ r now. here r (sym (is_now x u d ∙ same) ∙ now)) z

  turned : (x : SlotStep) (u : AtCell) → Does u x t.cell sent → (r q : RealView) → real_in s ≡ Some r →
      (slot_after x.slot u.slot).real ≡ Some q → q.witness ≡ r.witness → SendsNeither x.sent → Holds
  turned x u d r q has is wit z =
      of x u d (λ y now. let one : q ≡ y = let a = sym (is_now x u d ∙ is) ∙ now in cc in subst P one (by_witness r q wit (here r has))) z

  ghosts_neither : (q : RealView) (j : ℕ) (haunts : _) (changed : Bool) → SendsNeither (ghost_messages (here_at f k) q j haunts changed)
  ghosts_neither q j haunts changed = (
    ghosts_silent update_in no_update (here_at f k) q j haunts changed,
    ghosts_silent real_of no_real (here_at f k) q j haunts changed,
  )

  acts_keep : (u : AtCell) (r q : RealView) (changed : Bool) → Acts (here_at f k) e s.cell i r u q changed → q.witness ≡ r.witness
  acts_keep u r q changed (surveys n a b c) = refl
  acts_keep u r q changed _ = refl

  -- a look takes the entry
  takes_it : (n : ℕ) (q : RealView) → i ≡ None → s.cell.looks ≡ n + 1 → t.cell.looks ≡ n → real_in t ≡ Some q →
      NotTaken s.cell i t.cell → ⊥
  takes_it n q none at is now (as_often often) = omega (arith, at, is, often)
  takes_it n q none at is now (gone none_now) = let z = sym none_now ∙ now in cc
  takes_it n q none at is now (ticked fed) = let z = sym none ∙ fed in cc

  cell_holds : NotTaken s.cell i t.cell → {tree : Division} → CellDeeds (here_at f k) tree e s.cell i t.cell sent → Holds
  cell_holds not (deed.idles a z) = holds (λ r now. here r (sym a.real ∙ now)) (subst SendsNeither (sym z) (tt, tt))
  cell_holds not {tree} (deed.stays u r q changed has own acts at d) =
      turned _ u d r _ has refl (acts_keep u r q changed acts)
      (ghosts_neither q k (haunts_at (here_at f k) tree q.state.pos k q.haunts) changed)
  cell_holds not {tree} (deed.goes u r q changed j has own acts at n d) =
      let haunts = haunts_at (here_at f k) tree q.state.pos j (set.insert q.haunts k) in
      let none = ghosts_neither q j haunts changed in
      record {
        slot = λ x now. absurd (let z = sym (is_now _ u d) ∙ now in cc);
        sends =
            subst (AllByRecursion (λ p. OfReal P p.1)) (sym d.sends)
            (all_append (λ p. OfReal P p.1) (ghost_messages (here_at f k) q j haunts changed) _ (none_carried P _ none.1) (
              (λ x is. by_witness r x (sym (ap witness_of is) ∙ acts_keep u r q changed acts) (here r has)),
              tt,
            ));
        silent =
            subst (IsSilent update_in) (sym d.sends)
            (all_append (λ p. update_in p.1 ≡ None) (ghost_messages (here_at f k) q j haunts changed) _ none.0 (refl, tt));
      }
  cell_holds not (deed.holds c r n own has mine may lt d) = turned _ s.cell d r _ has refl refl (tt, tt)
  cell_holds not (deed.passes c p n own has at d) = still _ s.cell d refl ((refl, tt), (refl, tt))
  cell_holds not (deed.lands r bs n own has may d) =
      of _ s.cell d (λ x now. let one : r ≡ x = let z = sym (is_now _ s.cell d) ∙ now in cc in subst P one (comes r bs n)) (
        mapped_silent update_in (current_to (here_at f k) r) (λ b. refl) (base_numbers (here_at f k)),
        mapped_silent real_of (current_to (here_at f k) r) (λ b. refl) (base_numbers (here_at f k)),
      )
  cell_holds not (deed.reaped r n has own may d) =
      of _ s.cell d (λ x now. absurd (let z = sym (is_now _ s.cell d) ∙ now in cc))
      (drops_silent update_in no_update r, drops_silent real_of no_real r)
  cell_holds not (deed.looks n r w known h at has own v small d) =
      absurd (takes_it n _ h at (ap (λ a. a.looks) d.state) (ap (λ a. a.slot.real) d.state) not)

  pub moves_hold : NotTaken s.cell i t.cell → Moves f e k s i t sent → Holds
  moves_hold not (at_a_cell tree of low m base) = cell_holds not (cell_deeds m)
  moves_hold not (at_a_base high m cell) =
      holds (λ r now. here r (sym (ap (λ c. c.slot.real) cell) ∙ now))
      (base_silent update_in sees_no_update _ _ e _ i _ sent m, base_silent real_of sees_no_real _ _ e _ i _ sent m)
