-- The worked slide: its two trees are such, and its one order tells the last.
use Rattle.std.proofs.Common.{◌≡◌, ℕ, zero, suc, ◌<◌, ◌≤◌, [], ◌∷◌, Some, refl, subst, arith, inr}
use Rattle.seam_node_steps.specs.Prelude.{Boundaries, IsProper, IsTree, area, cut_after, empty_world}
use Rattle.seam_law_calls.proofs.ExampleMet.{frame_is}
use Rattle.seam_law_rounds.specs.Prelude.{opening}
use Rattle.seam_law_rounds.proofs.ExampleOpening.{between}
use Rattle.seam_law_slides.specs.Prelude.{AreOfRound, MaySlide, framed_with, moved_cells, slid, sliding}

moved_is_tree : IsTree moved_cells
moved_is_tree = record {
  size_from = omega arith;
  size_to = omega arith;
  cells_to = omega arith;
  cell_was_there = was;
  none_empty = proper;
}
  where
    was : (n : ℕ) → n < 1 → (cut_after moved_cells n).cell ≤ n
    was zero h = omega arith
    was (suc n) h = absurd (omega (arith, h))

    proper : (c : ℕ) → c < 2 → IsProper (area moved_cells c)
    proper zero h = record { wide = omega arith; deep = omega arith }
    proper (suc zero) h = record { wide = omega arith; deep = omega arith }
    proper (suc (suc c)) h = absurd (omega (arith, h))

told_is : (x : Boundaries) → Some slid ≡ Some x → AreOfRound (framed_with opening sliding (moved_cells ∷ [])) x
told_is x is = let same : slid ≡ x = cc in subst (AreOfRound (framed_with opening sliding (moved_cells ∷ []))) same refl

pub may_slide : MaySlide opening empty_world sliding (moved_cells ∷ [])
may_slide = record {
  between = between;
  frame = record { defs = frame_is.defs; tree = frame_is.tree; later = ((moved_is_tree, refl), tt) };
  space = (refl, (refl, tt));
  orders = (told_is, ((λ x is. cc), ((λ x is. cc), ((λ x is. cc), tt))));
  told = inr (record {
    place = 0;
    node = 16;
    bounds = slid;
    order = refl;
    is_base = omega arith;
    in_net = omega arith;
    last = record { of = refl; number = refl };
  });
}
