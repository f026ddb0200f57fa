-- Each move of a cell is one of the witness's.
use Rattle.seam_law_calls.proofs.Prelude.{◌≡◌, ℕ, ◌+◌, ◌<◌, Bool, true, nat_lt, List, length, Option, None, Some, refl, sym, ap, ◌∙◌, subst}
use Rattle.seam_law_calls.proofs.Prelude.{arith, nat_tests, Division, RealView, Msg, limit, base_numbers, base_of, SlotStep, slot_after}
use Rattle.seam_law_calls.proofs.Prelude.{haunts_at, ghost_messages, current_to, numbered, shown_of, IsSilent, Frame, here_at, Has, AtCell}
use Rattle.seam_law_calls.proofs.Prelude.{Does, Acts, surveys, CellMoves, real_of, update_in, WitnessMoves}
use Rattle.std.specs.FinSet as set
use Rattle.seam_law_calls.proofs.CellDeeds as deed
use Rattle.seam_law_calls.proofs.CellDeeds.{CellDeeds, cell_deeds}
use Rattle.seam_law_calls.proofs.Plain.{SeesNoGhost, ghosts_silent, drops_silent, mapped_silent}
use Rattle.seam_law_calls.specs.WitnessMoves.{rests, lands, leaves, looks}

no_update : SeesNoGhost update_in
no_update = record { sets = λ e n c. refl; drops = λ e n. refl }

no_real : SeesNoGhost real_of
no_real = record { sets = λ e n c. refl; drops = λ e n. refl }

lt_of : (a b : ℕ) → nat_lt a b ≡ true → a < b
lt_of a b is = grind (arith, nat_tests, is)

-- the real s, if there is one, has the witness that it had
abbrev pub Keeps : Option RealView → Option RealView → Type 0
Keeps s t = (q : RealView) → t ≡ Some q → (r : RealView) × (s ≡ Some r) × (q.witness ≡ r.witness)

keeps_same : (s t : Option RealView) → t ≡ s → Keeps s t
keeps_same s t is q has = (q, sym is ∙ has, refl)

keeps_turned : (s t : Option RealView) (r q : RealView) → s ≡ Some r → t ≡ Some q → q.witness ≡ r.witness → Keeps s t
keeps_turned s t r q a b c x has = let one : x ≡ q = cc in (r, a, ap (λ y. y.witness) one ∙ c)

keeps_none : (s t : Option RealView) → t ≡ None → Keeps s t
keeps_none s t is q has = absurd (let z = sym is ∙ has in cc)

module _ (f : Frame) (e k : ℕ) (s : Has) (i : Option Msg) (t : Has) (sent : List (ℕ × Msg)) where
  abbrev was : Option RealView
  was = s.cell.slot.real

  abbrev is_now : Option RealView
  is_now = t.cell.slot.real

  abbrev Its : Type 0
  Its = WitnessMoves (here_at f k) e s.cell i is_now sent

  real_is : (x : SlotStep) (u : AtCell) → Does u x t.cell sent → is_now ≡ (slot_after x.slot u.slot).real
  real_is x u d = ap (λ a. a.slot.real) d.state

  of : (x : SlotStep) (u : AtCell) → Does u x t.cell sent → Keeps was is_now → IsSilent update_in x.sent → IsSilent real_of x.sent → Its
  of x u d keeps a b = rests keeps (subst (IsSilent update_in) (sym d.sends) a) (subst (IsSilent real_of) (sym d.sends) b)

  still : (x : SlotStep) (u : AtCell) → Does u x t.cell sent → (slot_after x.slot u.slot).real ≡ was → IsSilent update_in x.sent →
      IsSilent real_of x.sent → Its
  still x u d same a b = of x u d (keeps_same was is_now (real_is x u d ∙ same)) a b

  acts_keep : (u : AtCell) (r q : RealView) (changed : Bool) → Acts (here_at f k) e s.cell i r u q changed → q.witness ≡ r.witness
  acts_keep u r q changed (surveys n a b c) = refl
  acts_keep u r q changed _ = refl

  by_deed : {tree : Division} → CellDeeds (here_at f k) tree e s.cell i t.cell sent → Its
  by_deed (deed.idles a z) =
      rests (keeps_same was is_now a.real) (subst (IsSilent update_in) (sym z) tt) (subst (IsSilent real_of) (sym z) tt)
  by_deed {tree} (deed.stays u r q changed has own acts at d) =
      let haunts = haunts_at (here_at f k) tree q.state.pos k q.haunts in
      of _ u d (keeps_turned was is_now r _ has (real_is _ u d) (acts_keep u r q changed acts))
      (ghosts_silent update_in no_update (here_at f k) q k haunts changed)
      (ghosts_silent real_of no_real (here_at f k) q k haunts changed)
  by_deed {tree} (deed.goes u r q changed j has own acts at n d) =
      let haunts = haunts_at (here_at f k) tree q.state.pos j (set.insert q.haunts k) in
      leaves r _ j (ghost_messages (here_at f k) q j haunts changed) has (real_is _ u d) (acts_keep u r q changed acts) d.sends
      (ghosts_silent update_in no_update (here_at f k) q j haunts changed)
      (ghosts_silent real_of no_real (here_at f k) q j haunts changed)
  by_deed (deed.holds c r n own has mine may lt d) =
      of _ s.cell d (keeps_turned was is_now r _ has (real_is _ s.cell d) refl) tt tt
  by_deed (deed.passes c p n own has at d) = still _ s.cell d refl (refl, tt) (refl, tt)
  by_deed (deed.lands r bs n own has may d) =
      lands r bs n (real_is _ s.cell d)
      (subst (IsSilent update_in) (sym d.sends)
      (mapped_silent update_in (current_to (here_at f k) r) (λ b. refl) (base_numbers (here_at f k))))
      (subst (IsSilent real_of) (sym d.sends) (mapped_silent real_of (current_to (here_at f k) r) (λ b. refl) (base_numbers (here_at f k))))
  by_deed (deed.reaped r n has own may d) =
      of _ s.cell d (keeps_none was is_now (real_is _ s.cell d)) (drops_silent update_in no_update r) (drops_silent real_of no_real r)
  by_deed (deed.looks n r w known h at has own v small d) =
      looks n r _ w _ (shown_of (here_at f k) r w known) at has v
      (real_is _ (record { slot = s.cell.slot; survey = s.cell.survey; looks = n }) d) refl refl
      (lt_of (w.sent + length (shown_of (here_at f k) r w known)) limit small)
      (d.sends ∙ ap (λ x. numbered (base_of (here_at f k) x) x w.sent (shown_of (here_at f k) r w known)) own)

  pub witness_moves : {tree : Division} → CellMoves (here_at f k) tree e s.cell i t.cell sent → Its
  witness_moves m = by_deed (cell_deeds m)
