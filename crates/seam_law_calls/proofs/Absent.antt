-- An entity that is nowhere, and that nothing brings, stays so.
use Rattle.seam_law_calls.proofs.Prelude.{◌≡◌, ℕ, Bool, true, false, cond, nat_lt, List, Option, None, Some, refl, sym, ap, ◌∙◌, subst}
use Rattle.seam_law_calls.proofs.Prelude.{AllByRecursion, Division, Ghost, beat_in, copy_in, ghost_after, GhostCopy, RealView, Msg, Hand}
use Rattle.seam_law_calls.proofs.Prelude.{GhostSet, Frame, here_at, Has, AtCell, BaseMoves, Moves, at_a_cell, at_a_base, real_in, IsBlank}
use Rattle.seam_law_calls.proofs.Prelude.{CarriesNoEntity, IsAbsent, HasFewEntities}
use Rattle.seam_law_calls.proofs.CellDeeds as deed
use Rattle.seam_law_calls.proofs.CellDeeds.{CellDeeds, HeardOf, as_before, set_to, dropped, cell_deeds}
use Rattle.seam_law_calls.proofs.Keeping.{all_happen, run_keeps, units, EventsKeep, FramedKeep}
use Rattle.seam_law_calls.proofs.BaseDeeds.{base_keeps}

-- a drop makes no copy
no_copy : (g : Option (Ghost GhostCopy)) (beat : ℕ) → copy_in g ≡ None →
    copy_in (ghost_after g (record { beat = beat; copy = None })) ≡ None
no_copy g beat none = by (nat_lt (beat_in g) beat)
  where
    by : (b : Bool) → copy_in (cond b (Some (record { beat = beat; copy = None })) g) ≡ None
    by true = refl
    by false = none

module _ (f : Frame) (e k : ℕ) (s : Has) (i : Option Msg) (t : Has) (sent : List (ℕ × Msg)) (here : IsBlank s)
    (come : (m : Msg) → i ≡ Some m → CarriesNoEntity m) where
  abbrev Stays : Type 0
  Stays = IsBlank t × AllByRecursion (λ p. CarriesNoEntity p.1) sent

  with_sent : IsBlank t → (l : List (ℕ × Msg)) → sent ≡ l → AllByRecursion (λ p. CarriesNoEntity p.1) l → Stays
  with_sent blank l is all = (blank, subst (AllByRecursion (λ p. CarriesNoEntity p.1)) (sym is) all)

  same : t.cell ≡ s.cell → IsBlank t
  same is = record {
    real = ap (λ (c : AtCell). c.slot.real) is ∙ here.real;
    copy = ap (λ (c : AtCell). copy_in c.slot.ghost) is ∙ here.copy;
  }

  -- a cell with the slot as it was
  slot_same : (c : AtCell) → c.slot ≡ s.cell.slot → t.cell ≡ c → IsBlank t
  slot_same c slot is = record {
    real = ap (λ (x : AtCell). x.slot.real) is ∙ (ap (λ x. x.real) slot ∙ here.real);
    copy = ap (λ (x : AtCell). copy_in x.slot.ghost) is ∙ (ap (λ x. copy_in x.ghost) slot ∙ here.copy);
  }

  never : (r : RealView) → real_in s ≡ Some r → ⊥
  never r has = let z = sym here.real ∙ has in cc

  cell_blank : {tree : Division} → CellDeeds (here_at f k) tree e s.cell i t.cell sent → Stays
  cell_blank (deed.idles a z) = with_sent (record { real = a.real ∙ here.real; copy = copy_then a.heard }) _ z tt
    where
      copy_then : HeardOf e s.cell i t.cell → copy_in t.cell.slot.ghost ≡ None
      copy_then (as_before is) = ap copy_in is ∙ here.copy
      copy_then (set_to n c is none book) = absurd (come (GhostSet e n c) is)
      copy_then (dropped n is book) = ap copy_in book ∙ no_copy s.cell.slot.ghost n here.copy
  cell_blank (deed.stays u r q changed has own acts at d) = absurd (never r has)
  cell_blank (deed.goes u r q changed j has own acts at n d) = absurd (never r has)
  cell_blank (deed.holds c r n own has mine may lt d) = absurd (never r has)
  cell_blank (deed.passes c p n own has at d) = with_sent (slot_same _ refl d.state) _ d.sends (tt, tt)
  cell_blank (deed.lands r bs n own has may d) = absurd (come (Hand r bs) n)
  cell_blank (deed.reaped r n has own may d) = absurd (never r has)
  cell_blank (deed.looks n r w known is at has own v small d) = absurd (never r has)

  base_blank : (cells : ℕ) → t.cell ≡ s.cell → BaseMoves (here_at f k) cells e s.base i t.base sent → Stays
  base_blank cells cell m = (
    same cell,
    (base_keeps (λ o. Unit {0}) (λ j x. CarriesNoEntity x) m
        (record { calls = λ c r at is. tt; base_calls = λ c is. tt; ticks = λ is j lt. tt; reaps = λ r at is. tt })
        (units s.base.orders)).1,
  )

  stays_blank : Moves f e k s i t sent → Stays
  stays_blank (at_a_cell tree of low m base) = cell_blank (cell_deeds m)
  stays_blank (at_a_base high m cell) = base_blank _ cell m

module _ (f : Frame) (e : ℕ) where
  pub absent_happens : EventsKeep f (IsAbsent e)
  absent_happens w v o frame h =
      let all = all_happen f e (λ k s. IsBlank s) (λ a k m. CarriesNoEntity m)
      (λ k s i t sent here come m. stays_blank f e k s i t sent here (λ x is. (come x is).1) m) w v o frame
      (record { slots = h.cells; letters = h.letters }) in
      record { cells = all.slots; letters = all.letters }

  pub absent_leads : FramedKeep f (IsAbsent e)
  absent_leads = run_keeps f (IsAbsent e) absent_happens

-- so no entity past the bound comes into a world
pub few_leads : (f : Frame) → FramedKeep f HasFewEntities
few_leads f w v es frame few run = λ e le. absent_leads f e w v es frame (few e le) run
