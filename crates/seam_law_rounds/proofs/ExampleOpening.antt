-- A world as it is opened with the built-in definitions, where the worked rounds begin: it keeps both records, and nothing is there.
use Rattle.seam_law_rounds.proofs.Prelude.{◌≡◌, ℕ, zero, suc, ◌<◌, Some, sym, ap, ◌∙◌, arith, area, IsTree, IsProper, builtin, standard}
use Rattle.seam_law_rounds.proofs.Prelude.{copy_in, RealView, one_cell, empty_world, has_none, entity_flow, real_in, IsFrame, real_at}
use Rattle.seam_law_rounds.proofs.Prelude.{IsBetweenRounds, HasPartsBetweenRounds, opening, frame_is}
use Rattle.seam_law_rounds.proofs.Opened.{opened_is_new, opened_has_none, opened_between}

pub one_is_tree : IsTree (one_cell 10000)
one_is_tree = record {
  size_from = omega arith;
  size_to = omega arith;
  cells_to = omega arith;
  cell_was_there = λ n h. absurd (omega (arith, h));
  none_empty = proper;
}
  where
    proper : (c : ℕ) → c < 1 → IsProper (area (one_cell 10000) c)
    proper zero h = record { wide = omega arith; deep = omega arith }
    proper (suc c) h = absurd (omega (arith, h))

opening_is : IsFrame opening
opening_is = record { defs = frame_is.defs; tree = one_is_tree; later = tt }

pub between : IsBetweenRounds opening empty_world
between = opened_between builtin standard opening_is (omega arith)

pub is_new : (e k : ℕ) → (entity_flow e empty_world).slot k ≡ has_none
is_new = opened_is_new builtin standard opening_is (omega arith)

pub no_real : (e k : ℕ) (r : RealView) → real_at e empty_world k ≡ Some r → ⊥
no_real e k r at = let z = sym (opened_has_none builtin standard opening_is (omega arith) e k) ∙ at in cc

pub parts_between : HasPartsBetweenRounds opening empty_world
parts_between = record {
  parts = λ e k r at. absurd (no_real e k r at);
  clients = λ e k r at. absurd (no_real e k r at);
  entities = λ e le k. record { real = ap real_in (is_new e k); copy = ap (λ h. copy_in h.cell.slot.ghost) (is_new e k) };
  views = λ e k r at. absurd (no_real e k r at);
}
