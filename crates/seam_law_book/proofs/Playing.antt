-- What a round leaves of an entity: its real and its base part executed what the batch brought, and nothing else of them changed.
use Rattle.seam_law_book.proofs.Prelude.{◌≡◌, ℕ, ◌+◌, length, Some, sym, ap, ◌∙◌, is_some, AllByRecursion, Call as CallData, Batch}
use Rattle.seam_law_book.proofs.Prelude.{order_or, RealView, holders, World, loaded, ClientReplica, letters_of, TokenPlace, In, On, Desk}
use Rattle.seam_law_book.proofs.Prelude.{desk_of, parcel_of, Frame, entity_flow, real_in, real_of, IsOne, desk_for, as_sender, real_desk}
use Rattle.seam_law_book.proofs.Prelude.{home_of, as_base_sender, part_desk, real_at, framed, next_from, next_to, base_calls_of}
use Rattle.seam_law_book.proofs.Prelude.{HasSettledPart, HadSameReal, GoesThroughRound, ObeysLaws, EndsRightly, ObeysLawsOfLooks}
use Rattle.seam_law_book.proofs.Prelude.{ObeysLawsOfReaps, AreGone, KeepsRecords, KeepsRecordsWithin, MayBeGiven, may_begin, sole_here}
use Rattle.seam_law_book.proofs.Prelude.{counted_one, in_frame, spared_loaded, no_mail, Home, quiet_home, looks_leave, reaps_leave}
use Rattle.std.specs.FinMap as table
use Rattle.seam_law_rounds.specs.Prelude.{calls_of}
use Rattle.seam_law_book.proofs.Parts.{IsButClient, looks_leave_part, client_stays, both_seen}

-- what the laws of the three phases say of a round
pub record Obeyed (f : Frame) (clients : ℕ → ClientReplica) (w : World) (b : Batch) (v : World) (round : GoesThroughRound w b v) : Type 0
  where
    pub ready : (e home : ℕ) (r : RealView) → real_at e (loaded w b) home ≡ Some r →
        HasSettledPart (framed f b) e r.ty (loaded w b)
    pub calls : ObeysLaws f clients w b round.called
    pub ends : (e home : ℕ) (r : RealView) → real_in ((entity_flow e (loaded w b)).slot home) ≡ Some r → (k : ℕ) (q : RealView) →
        real_in ((entity_flow e round.called).slot k) ≡ Some q → EndsRightly f b e home r k q round.called
    pub then : ℕ → ClientReplica
    pub called : KeepsRecordsWithin (framed f b) then round.called
    pub reaps : ObeysLawsOfReaps (framed f b) round.called round.gone round.reaped
    pub gone : AreGone round.gone round.reaped
    pub reaped : KeepsRecordsWithin (framed f b) then round.reaped
    pub looks : ObeysLawsOfLooks (framed f b) then round.reaped v
    pub last : ℕ → ClientReplica
    pub records : KeepsRecords (framed f b) last v

module _ (f : Frame) (clients : ℕ → ClientReplica) (w : World) (b : Batch) (keeps : KeepsRecords f clients w) (may : MayBeGiven f w b)
    (v : World) (round : GoesThroughRound w b v) (laws : Obeyed f clients w b v round) where
  abbrev pub g : Frame
  g = framed f b

  -- ---- one that is there from the load to the end

  loaded_by : (e : ℕ) (p : TokenPlace) (r : RealView) → IsOne e (loaded w b) p r → Home (loaded w b) e
  loaded_by e (In k) r one = record { node = k; real = r; here = one.here }
  loaded_by e (On x y) r one =
      let none = ap (letters_of real_of) (no_mail f w b (may_begin keeps may) e x y) in
      absurd (let z = sym none ∙ one.here in cc)

  -- the real of a loaded world that has a holder
  pub loaded_home : (e : ℕ) → holders (loaded w b) e ≡ 1 → Home (loaded w b) e
  loaded_home e one = let o = counted_one (loaded w b) e one in loaded_by e o.0 o.1 o.2

  pub one_at_end : (e : ℕ) → holders (loaded w b) e ≡ 1 → AllByRecursion (λ x. x ≡ e → ⊥) round.gone → holders v e ≡ 1
  one_at_end e one spared =
      laws.looks.one_real e (laws.reaps.one_real e (laws.calls.one_real e one) spared)

  pub end_home : (e : ℕ) → holders v e ≡ 1 → Home v e
  end_home e one = quiet_home g v laws.records.reals e one

  -- ---- its real

  module _ (e k : ℕ) (q : RealView) (at : real_at e v k ≡ Some q) where
    pub was_reaped : HadSameReal e k q round.reaped
    was_reaped = looks_leave g round.reaped laws.reaped.records.reals round.look_events v round.looks e k q at

    pub was_called : HadSameReal e k was_reaped.real round.called
    was_called =
        reaps_leave g round.called laws.called.records.reals round.gone round.may round.reap_events round.reaped round.reaps e k
        was_reaped.real was_reaped.here

    abbrev pub before : RealView
    before = was_called.real

    same_type : q.ty ≡ before.ty
    same_type = ap (λ (y : RealView). y.ty) was_reaped.same ∙ ap (λ (y : RealView). y.ty) was_called.same

    same_orders : q.orders ≡ before.orders
    same_orders = ap (λ (y : RealView). y.orders) was_reaped.same ∙ ap (λ (y : RealView). y.orders) was_called.same

    module _ (home : ℕ) (r : RealView) (here : real_at e (loaded w b) home ≡ Some r) where
      pub type_at_end : q.ty ≡ r.ty
      type_at_end =
          let one = (laws.calls.each e home r here).replays in
          let is = (sole_here real_in real_of (entity_flow e round.called) one.has.place one.has.real before k one.has.one
          was_called.here).1 in
          same_type ∙ ap (λ (y : RealView). y.ty) is ∙ one.replays.type

      pub next_at_end : (s : ℕ) → next_from s q ≡ next_from s r + length (calls_of b e s)
      next_at_end s =
          let turn = (laws.calls.each e home r here).cell_calls s in
          let seen = as_sender s (entity_flow e round.called) in
          let desk = desk_for s before.orders before.done in
          let is = (sole_here desk_of parcel_of seen turn.place turn.desk desk k turn.in_turn.sole (ap (real_desk s) was_called.here)).1 in
          let executed = (laws.ends e home r here k before was_called.here).cell_calls s in
          ap (λ os. (order_or (table.get os s)).next) same_orders ∙ ap (λ (d : Desk CallData). d.order.next) is ∙ turn.in_turn.next
          ∙ ap (λ (d : Desk CallData). next_from s r + length d.done) (sym is) ∙ ap (λ l. next_from s r + length l) executed

      -- ---- its base part

      abbrev pub p : HasSettledPart g e r.ty (loaded w b)
      p = laws.ready e home r here

      abbrev pub ended : HasSettledPart g e q.ty v
      ended = laws.records.parts.parts e k q at

      abbrev left : HasSettledPart g e was_reaped.real.ty round.reaped
      left = laws.reaped.records.parts.parts e k was_reaped.real was_reaped.here

      looked : IsButClient left.part ended.part
      looked =
          looks_leave_part g round.reaped laws.reaped.records.reals v round.look_events round.looks e was_reaped.real.ty left ended.part
          ended.here

      part_called : ((entity_flow e round.called).slot (home_of f e)).base.part ≡ Some left.part
      part_called = laws.reaps.parts e k before was_called.here (home_of f e) left.part left.here

      pub next_to_at_end : (s : ℕ) → next_to s ended.part ≡ next_to s p.part + length (base_calls_of b e s)
      next_to_at_end s =
          let turn = ((laws.calls.each e home r here).base_calls p.part p.here).turns s in
          let seen = as_base_sender s (entity_flow e round.called) in
          let desk = desk_for s left.part.orders left.part.done in
          let is = (sole_here desk_of parcel_of seen turn.place turn.desk desk (home_of f e) turn.in_turn.sole
          (ap (part_desk s) part_called)).1 in
          let executed = (laws.ends e home r here k before was_called.here).base_calls (home_of f e) left.part part_called s in
          ap (λ os. (order_or (table.get os s)).next) looked.orders ∙ ap (λ (d : Desk CallData). d.order.next) is ∙ turn.in_turn.next
          ∙ ap (λ (d : Desk CallData). next_to s p.part + length d.done) (sym is) ∙ ap (λ l. next_to s p.part + length l) executed

      -- it has a client exactly where it had one after the load, and its real a witness exactly where it has a client
      pub client_at_end : is_some q.witness ≡ is_some p.part.proxy
      client_at_end =
          both_seen q.witness ended.part.proxy ended.part.version (laws.records.parts.clients e k q at ended.part ended.here)
          ∙ looked.client
          ∙ client_stays g e (loaded w b) round.called round.call_events (in_frame f w b (may_begin keeps may))
          (spared_loaded f w b (may_begin keeps may) e home r here) round.calls (home_of f e) p.part p.here p.others left.part part_called
