-- An entity in a cell's survey list has its real there, and one in its look list has a witness too.
use Rattle.seam_law_ghosts.proofs.Prelude.{◌≡◌, ℕ, ◌≤◌, Bool, true, false, cond, is_some, List, Option, Some, ◌⊎◌, inl, inr, refl, sym, ap}
use Rattle.seam_law_ghosts.proofs.Prelude.{◌∙◌, subst, arith, Division, RealView, Msg, Here, SlotStep, slot_after, Frame, here_at, Has}
use Rattle.seam_law_ghosts.proofs.Prelude.{AtCell, unlisted_if, Does, Acts, surveys, calls, readies, has_witness, looks_after_tick}
use Rattle.seam_law_ghosts.proofs.Prelude.{Moves, at_a_cell, at_a_base, real_in}
use Rattle.seam_law_calls.proofs.CellDeeds as deed
use Rattle.seam_law_calls.proofs.CellDeeds.{CellDeeds, cell_deeds}

abbrev has_one : Option RealView → Bool
has_one o = is_some o

pub record IsListed (c : AtCell) : Type 0 where
  pub survey : 1 ≤ c.survey → is_some c.slot.real ≡ true
  pub looks : 1 ≤ c.looks → has_witness c.slot.real ≡ true

module _ (f : Frame) (e k : ℕ) (s : Has) (i : Option Msg) (t : Has) (sent : List (ℕ × Msg)) (here : IsListed s.cell) where
  abbrev h : Here
  h = here_at f k

  -- the lists are the same or shorter, and the real has a witness where it had one
  listed : (x : SlotStep) (u : AtCell) → Does u x t.cell sent → u.survey ≤ s.cell.survey → u.looks ≤ s.cell.looks →
      (x.unlisted ≡ true) ⊎ ((x.unlisted ≡ false) × (is_some s.cell.slot.real ≡ true → is_some (slot_after x.slot u.slot).real ≡ true)
      × (has_witness s.cell.slot.real ≡ true → has_witness (slot_after x.slot u.slot).real ≡ true)) → IsListed t.cell
  listed x u d less few (inl gone) =
      let a = ap (λ c. c.survey) d.state ∙ ap (λ b. unlisted_if b u.survey) gone in
      let b = ap (λ c. c.looks) d.state ∙ ap (λ b. unlisted_if b u.looks) gone in
      record { survey = λ some. absurd (omega (arith, a, some)); looks = λ some. absurd (omega (arith, b, some)) }
  listed x u d less few (inr p) =
      let a = ap (λ c. c.survey) d.state ∙ ap (λ b. unlisted_if b u.survey) p.0 in
      let b = ap (λ c. c.looks) d.state ∙ ap (λ b. unlisted_if b u.looks) p.0 in
      record {
        survey = λ some. ap (λ c. is_some c.slot.real) d.state ∙ p.1 (here.survey (omega (arith, a, some, less)));
        looks = λ some. ap (λ c. has_witness c.slot.real) d.state ∙ p.2 (here.looks (omega (arith, b, some, few)));
      }

  same : (x : SlotStep) (u : AtCell) → Does u x t.cell sent → u.survey ≤ s.cell.survey → u.looks ≤ s.cell.looks → x.unlisted ≡ false →
      (slot_after x.slot u.slot).real ≡ real_in s → IsListed t.cell
  same x u d less few kept is =
      listed x u d less few (inr (kept, (λ one. ap is_some is ∙ one), (λ one. ap has_witness is ∙ one)))

  -- the real is another one, with the same witness
  turned : (x : SlotStep) (u : AtCell) (r q : RealView) → Does u x t.cell sent → u.survey ≤ s.cell.survey → u.looks ≤ s.cell.looks →
      x.unlisted ≡ false → real_in s ≡ Some r → (slot_after x.slot u.slot).real ≡ Some q → q.witness ≡ r.witness → IsListed t.cell
  turned x u r q d less few kept has is witness =
      listed x u d less few (inr (
        kept,
        (λ one. ap is_some is),
        (λ one. ap has_witness is ∙ (ap is_some witness ∙ (sym (ap has_witness has) ∙ one))),
      ))

  acts_less : (u : AtCell) (r q : RealView) (changed : Bool) → Acts h e s.cell i r u q changed →
      (u.survey ≤ s.cell.survey) × (u.looks ≤ s.cell.looks) × (q.witness ≡ r.witness)
  acts_less u r q changed (surveys n a b c) = (omega (arith, b), omega arith, refl)
  acts_less u r q changed (calls c a b d g) = (omega arith, omega arith, refl)
  acts_less u r q changed (readies o c a b d g) = (omega arith, omega arith, refl)

  tick_by : (o : Option RealView) → 1 ≤ looks_after_tick o → has_witness o ≡ true
  tick_by o some = by (has_witness o) some
    where
      by : (b : Bool) → 1 ≤ cond {A = ℕ} b 1 0 → b ≡ true
      by true h = refl
      by false h = absurd (omega (arith, h))

  cell_listed : {tree : Division} → CellDeeds h tree e s.cell i t.cell sent → IsListed t.cell
  cell_listed (deed.idles a z) = record {
    survey = λ some. let less = a.survey in ap is_some a.real ∙ here.survey (omega (arith, less, some));
    looks = λ some. ap has_witness a.real ∙ elim a.looks [
      | inl less ↦ here.looks (omega (arith, less, some))
      | inr tick ↦ let is = tick.1 in tick_by s.cell.slot.real (omega (arith, is, some))
    ];
  }
  cell_listed (deed.stays u r q changed has own acts at d) =
      let a = acts_less u r q changed acts in
      turned _ u r _ d a.0 a.1 refl has refl a.2
  cell_listed (deed.goes u r q changed j has own acts at n d) =
      let a = acts_less u r q changed acts in
      listed _ u d a.0 a.1 (inl refl)
  cell_listed (deed.holds c r n own has mine may lt d) = turned _ s.cell r _ d (omega arith) (omega arith) refl has refl refl
  cell_listed (deed.passes c p n own has at d) = same _ s.cell d (omega arith) (omega arith) refl refl
  cell_listed (deed.lands r bs n own has may d) =
      listed _ s.cell d (omega arith) (omega arith) (inr (
        refl,
        (λ one. refl),
        (λ one. absurd (let z = sym (ap has_witness has)
            ∙ one in cc)),
      ))
  cell_listed (deed.reaped r n has own may d) = listed _ s.cell d (omega arith) (omega arith) (inl refl)
  cell_listed (deed.looks n r w known is at has own v small d) =
      listed _ _ d (omega arith) (omega (arith, at)) (inr (refl, (λ one. refl), (λ one. refl)))

  pub stays_listed : Moves f e k s i t sent → IsListed t.cell
  stays_listed (at_a_cell tree of low m is) = cell_listed (cell_deeds m)
  stays_listed (at_a_base high m is) = subst IsListed (sym is) here
