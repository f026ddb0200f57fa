-- A witness tells only in looks: without them, what it told is all.
use Rattle.seam_law_calls.proofs.Prelude.{◌≡◌, ℕ, ◌≤◌, Bool, true, false, List, Option, None, Some, refl, sym, ap, ◌∙◌, subst, arith, inl}
use Rattle.seam_law_calls.proofs.Prelude.{inr, AllByRecursion, Division, Order, RealView, Msg, Tick, SlotStep, Here, World, IsSilent, Frame}
use Rattle.seam_law_calls.proofs.Prelude.{here_at, IsInFrame, Has, AtCell, unlisted_if, Does, Acts, surveys, CellMoves, Moves, at_a_cell}
use Rattle.seam_law_calls.proofs.Prelude.{at_a_base, sent_of, sent_by, is_tick_order, tick_in, HasToldAtMost, HasNoLooks}
use Rattle.seam_law_calls.proofs.CellDeeds as deed
use Rattle.seam_law_calls.proofs.Classify.{frame_happens}
use Rattle.seam_law_calls.proofs.WitnessKept.{each_happens}
use Rattle.seam_law_calls.proofs.BaseDeeds.{base_keeps}
use Rattle.seam_law_calls.proofs.CellDeeds.{CellDeeds, cell_deeds, cell_says, plain_says}
use Rattle.seam_law_calls.proofs.Keeping.{EachKeeps, RunsKeep, runs_keep, all_happen}

abbrev pub NoTicks : List Order → Type 0
NoTicks os = AllByRecursion (λ o. is_tick_order o ≡ false) os

unlisted_none : (b : Bool) (n : ℕ) → n ≡ 0 → unlisted_if b n ≡ 0
unlisted_none true n is = refl
unlisted_none false n is = is

-- no cell sends a tick
pub ticks_silent : {h : Here} {tree : Division} {e : ℕ} {s : AtCell} {i : Option Msg} {v : AtCell} {sent : List (ℕ × Msg)} →
    CellMoves h tree e s i v sent → IsSilent tick_in sent
ticks_silent {h} {tree} {e} {s} {i} m =
    cell_says (λ j m. tick_in m ≡ None)
    (plain_says tick_in h tree e s i (λ x b c. refl) (λ x b. refl) (λ r. refl) (λ c. refl) (λ x j g. refl) (λ u. refl))
    (cell_deeds m)

module _ (f : Frame) (e k : ℕ) (s : Has) (i : Option Msg) (t : Has) (sent : List (ℕ × Msg)) (calm : i ≡ Some Tick → ⊥) where
  -- ---- ticks and look lists

  record Calm : Type 0 where
    cell : t.cell.looks ≡ 0
    orders : NoTicks t.base.orders
    silent : IsSilent tick_in sent

  module _ (none : s.cell.looks ≡ 0) where
    looks_are : (x : SlotStep) (u : AtCell) → Does u x t.cell sent → u.looks ≡ 0 → t.cell.looks ≡ 0
    looks_are x u d is = ap (λ a. a.looks) d.state ∙ unlisted_none x.unlisted u.looks is

    acts_keep : (u : AtCell) (r q : RealView) (changed : Bool) → Acts (here_at f k) e s.cell i r u q changed → u.looks ≡ 0
    acts_keep u r q changed (surveys n a b c) = none
    acts_keep u r q changed _ = none

    none_left : {tree : Division} → CellDeeds (here_at f k) tree e s.cell i t.cell sent → t.cell.looks ≡ 0
    none_left (deed.idles a z) = elim a.looks [ inl le ↦ omega (arith, le, none) | inr tick ↦ absurd (calm tick.0) ]
    none_left (deed.stays u r q changed has own acts at d) = looks_are _ u d (acts_keep u r q changed acts)
    none_left (deed.goes u r q changed j has own acts at n d) = looks_are _ u d (acts_keep u r q changed acts)
    none_left (deed.holds c r n own has mine may lt d) = looks_are _ s.cell d none
    none_left (deed.passes c p n own has at d) = looks_are _ s.cell d none
    none_left (deed.lands r bs n own has may d) = looks_are _ s.cell d none
    none_left (deed.reaped r n has own may d) = looks_are _ s.cell d none
    none_left (deed.looks n r w known h at has own v small d) = absurd (omega (arith, at, none))

    cell_calm : NoTicks t.base.orders → {tree : Division} → CellMoves (here_at f k) tree e s.cell i t.cell sent → Calm
    cell_calm base m = record { cell = none_left (cell_deeds m); orders = base; silent = ticks_silent m }

  calm_moves : s.cell.looks ≡ 0 → NoTicks s.base.orders → Moves f e k s i t sent → Calm
  calm_moves none before (at_a_cell tree of low m same) = cell_calm none (subst NoTicks (sym (ap (λ b. b.orders) same)) before) m
  calm_moves none before (at_a_base high m same) =
      let b = base_keeps (λ o. is_tick_order o ≡ false) (λ j x. tick_in x ≡ None) m (record {
        calls = λ c r at is. refl;
        base_calls = λ c is. refl;
        ticks = λ is j lt. absurd (let no = is in cc);
        reaps = λ r at is. refl;
      }) before in
      record { cell = ap (λ c. c.looks) same ∙ none; orders = b.0; silent = b.1 }

-- ---- a run

module _ (f : Frame) (e n : ℕ) where
  pub record WithoutLooks (w : World) : Type 0 where
    pub frame : IsInFrame f w
    pub looks : HasNoLooks e w
    pub told : HasToldAtMost e n w

  pub looks_happen : EachKeeps WithoutLooks
  looks_happen w v o h =
      let all = all_happen f e (λ k s. (s.cell.looks ≡ 0) × NoTicks s.base.orders) (λ a k m. tick_in m ≡ None)
      (λ k s i t sent here come m.
      let c = calm_moves f e k s i t sent (λ is. let no = (come Tick is).1 in cc) here.0 here.1 m in ((c.cell, c.orders), c.silent))
      w v o h.frame
      (record { slots = λ k. (h.looks.cells k, h.looks.orders k); letters = h.looks.letters }) in
      record {
        frame = frame_happens f w v o h.frame;
        looks = record { cells = λ k. (all.slots k).0; orders = λ k. (all.slots k).1; letters = all.letters };
        told =
            each_happens (λ r. sent_by r ≤ n) (λ r q same le. let a = ap sent_of same in omega (arith, a, le)) f e w v o h.frame
            (λ k m r q x y shown at wit wit' sum le. let none = h.looks.cells k in absurd (omega (arith, at, none))) h.told;
      }

  pub looks_lead : RunsKeep WithoutLooks
  looks_lead = runs_keep WithoutLooks looks_happen
