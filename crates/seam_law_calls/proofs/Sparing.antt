-- An entity that no one reaps is reaped by none: no move orders it or sends a Reap.
use Rattle.seam_law_calls.proofs.Prelude.{◌≡◌, ℕ, List, Option, None, refl, sym, subst, AllByRecursion, Division, Order, Msg, IsSilent}
use Rattle.seam_law_calls.proofs.Prelude.{Frame, here_at, Has, AtBase, CellMoves, BaseMoves, Moves, at_a_cell, at_a_base, reaped_by}
use Rattle.seam_law_calls.proofs.Prelude.{reaped_by_order, HasNoReaps}
use Rattle.seam_law_calls.proofs.BaseDeeds.{base_keeps}
use Rattle.seam_law_calls.proofs.CellDeeds.{cell_deeds, cell_says, plain_says}

abbrev NoneReaped : List Order → Type 0
NoneReaped os = AllByRecursion (λ o. reaped_by_order o ≡ None) os

module _ (f : Frame) (e k : ℕ) (s : Has) (i : Option Msg) (t : Has) (sent : List (ℕ × Msg)) where
  abbrev Unreaped : Type 0
  Unreaped = IsSilent reaped_by sent

  cell_silent : {tree : Division} → CellMoves (here_at f k) tree e s.cell i t.cell sent → Unreaped
  cell_silent {tree} m =
      cell_says (λ j m. reaped_by m ≡ None)
      (plain_says reaped_by (here_at f k) tree e s.cell i (λ x b c. refl) (λ x b. refl) (λ r. refl) (λ c. refl) (λ x j g. refl) (λ u. refl))
      (cell_deeds m)

  -- what is left of the orders, and what is sent
  base_left : (cells : ℕ) → HasNoReaps s → BaseMoves (here_at f k) cells e s.base i t.base sent → HasNoReaps t × Unreaped
  base_left cells h m =
      base_keeps (λ o. reaped_by_order o ≡ None) (λ j m. reaped_by m ≡ None) m
      (record { calls = λ c r at is. refl; base_calls = λ c is. refl; ticks = λ is j lt. refl; reaps = λ r at is. is }) h

  pub orders_spared : HasNoReaps s → Moves f e k s i t sent → HasNoReaps t
  orders_spared h (at_a_cell tree of low m same) = subst (λ (b : AtBase). NoneReaped b.orders) (sym same) h
  orders_spared h (at_a_base high m same) = (base_left _ h m).0

  pub sent_spared : HasNoReaps s → Moves f e k s i t sent → Unreaped
  sent_spared h (at_a_cell tree of low m same) = cell_silent m
  sent_spared h (at_a_base high m same) = (base_left _ h m).1
