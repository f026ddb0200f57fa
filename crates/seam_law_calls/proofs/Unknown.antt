-- Of an entity that is not there, nothing comes but ticks, over every list of events.
use Rattle.seam_law_calls.proofs.Prelude.{◌≡◌, ℕ, ◌≤◌, is_some, List, [], ◌∷◌, Option, None, Some, refl, sym, ap, ◌∙◌, subst, arith}
use Rattle.seam_law_calls.proofs.Prelude.{AllByRecursion, Division, cells_of, Order, RealView, Msg, BaseCall, Hand, Update, Here}
use Rattle.seam_law_calls.proofs.Prelude.{cell_count, proxy_is_ready, letters_of, Frame, here_at, Has, AtBase, AtCell, BaseMoves, Moves}
use Rattle.seam_law_calls.proofs.Prelude.{at_a_cell, at_a_base, real_in, base_call_of, PartMoves, rests, refuses, offers, sends, serves}
use Rattle.seam_law_calls.proofs.Prelude.{executes, misses, updates, shows, ends, IsTickOrder, IsTickTo, OnlyTicks, IsUnknown}
use Rattle.seam_call.specs.declared.order.Order.TheVariants as order
use Rattle.seam_entity.specs.declared.message.Msg.TheVariants.{Call}
use Rattle.seam_law_calls.proofs.BaseDeeds.{base_keeps}
use Rattle.seam_law_calls.proofs.CellDeeds as deed
use Rattle.seam_law_calls.proofs.CellDeeds.{CellDeeds, cell_deeds}
use Rattle.seam_law_calls.proofs.Keeping.{EachKeeps, RunsKeep, runs_keep, all_happen}
use Rattle.seam_law_calls.proofs.Classify.{frame_happens}
use Rattle.seam_law_calls.proofs.PartSteps.{part_moves}

-- no call to the base part is among ticks
pub only_ticks : (os : List Order) → AllByRecursion IsTickOrder os → letters_of base_call_of os ≡ []
only_ticks [] h = refl
only_ticks (order.Tick ∷ os) h = only_ticks os h.1
only_ticks _ h = absurd h.0

module _ (f : Frame) (few : cells_of f.tree ≤ cell_count) (e k : ℕ) (s : Has) (i : Option Msg) (t : Has) (sent : List (ℕ × Msg))
    (here : OnlyTicks s) (come : (m : Msg) → i ≡ Some m → IsTickTo k m) where
  -- a part with nothing to do stays as it is
  part_stays : (h : Here) → PartMoves h e s.base i t.base sent → t.base.part ≡ s.base.part
  part_stays h (rests n m l part z) = part
  part_stays h (refuses c n stray is z) = ap (λ b. b.part) is
  part_stays h (offers c p q n has may d l after z) = absurd (come (BaseCall c) n)
  part_stays h (sends c cs n at left part z) = part
  part_stays h (serves c cs p q n at has home may d left after z) =
      absurd (let y = sym (only_ticks s.base.orders here.orders) ∙ at in cc)
  part_stays h (executes p o c n has at item l after z) = absurd (let y = sym (here.calls p has) ∙ ap is_some at in cc)
  part_stays h (misses u n why l part z) = part
  part_stays h (updates u p x n has is l after z) = absurd (come (Update u) n)
  part_stays h (shows p x n has is ready l after z) =
      absurd (let y = sym (here.updates p has) ∙ (ap proxy_is_ready is ∙ ready) in cc)
  part_stays h (ends os n at l after z) = absurd (subst (AllByRecursion IsTickOrder) at here.orders).0

  abbrev Stays : Type 0
  Stays = OnlyTicks t × AllByRecursion (λ p. IsTickTo p.0 p.1) sent

  kept : real_in t ≡ None → AllByRecursion IsTickOrder t.base.orders → t.base.part ≡ s.base.part → OnlyTicks t
  kept real orders part = record {
    real = real;
    orders = orders;
    calls = λ p at. here.calls p (sym part ∙ at);
    updates = λ p at. here.updates p (sym part ∙ at);
  }

  silent : real_in t ≡ None → t.base ≡ s.base → sent ≡ [] → Stays
  silent real base z = (
    kept real (subst (λ (b : AtBase). AllByRecursion IsTickOrder b.orders) (sym base) here.orders) (ap (λ (b : AtBase). b.part) base),
    subst (AllByRecursion (λ p. IsTickTo p.0 p.1)) (sym z) tt,
  )

  never : (r : RealView) → real_in s ≡ Some r → ⊥
  never r has = let z = sym here.real ∙ has in cc

  cell_silent : t.base ≡ s.base → {tree : Division} → CellDeeds (here_at f k) tree e s.cell i t.cell sent → Stays
  cell_silent base (deed.idles a z) = silent (a.real ∙ here.real) base z
  cell_silent base (deed.stays u r q changed has own acts at d) = absurd (never r has)
  cell_silent base (deed.goes u r q changed j has own acts at n d) = absurd (never r has)
  cell_silent base (deed.holds c r n own has mine may lt d) = absurd (never r has)
  cell_silent base (deed.passes c p n own has at d) = absurd (come (Call c) n)
  cell_silent base (deed.lands r bs n own has may d) = absurd (come (Hand r bs) n)
  cell_silent base (deed.reaped r n has own may d) = absurd (never r has)
  cell_silent base (deed.looks n r w known is at has own v small d) = absurd (never r has)

  base_silent : t.cell ≡ s.cell → t.base.part ≡ s.base.part → BaseMoves (here_at f k) (cells_of f.tree) e s.base i t.base sent → Stays
  base_silent cell part m =
      let b = base_keeps IsTickOrder IsTickTo m (record {
        calls = λ c r at is. absurd is;
        base_calls = λ c is. absurd is;
        ticks = λ is j lt. omega (arith, lt, few);
        reaps = λ r at is. absurd is;
      }) here.orders in
      (kept (ap (λ (c : AtCell). c.slot.real) cell ∙ here.real) b.0 part, b.1)

  stays_by : t.base.part ≡ s.base.part → Moves f e k s i t sent → Stays
  stays_by part (at_a_cell tree of low m same) = cell_silent same (cell_deeds m)
  stays_by part (at_a_base high m same) = base_silent same part m

  stays_silent : Moves f e k s i t sent → Stays
  stays_silent m = stays_by (part_stays (here_at f k) (part_moves f e k s i t sent m)) m

module _ (f : Frame) (e : ℕ) where
  pub unknown_happens : EachKeeps (IsUnknown f e)
  unknown_happens w v o h =
      let all = all_happen f e (λ k s. OnlyTicks s) (λ a k m. IsTickTo k m)
      (λ k s i t sent here come m. stays_silent f h.cells e k s i t sent here (λ x is. (come x is).1) m) w v o h.frame
      (record { slots = h.slots; letters = h.letters }) in
      record { frame = frame_happens f w v o h.frame; cells = h.cells; slots = all.slots; letters = all.letters }

  pub unknown_leads : RunsKeep (IsUnknown f e)
  unknown_leads = runs_keep (IsUnknown f e) unknown_happens
