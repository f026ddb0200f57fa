use Rattle.seam_law_book.proofs.Prelude.{sym, ap, ◌∙◌, arith, none-some, real_in, IsFrame, first_frame, opened_is_new}
use Rattle.seam_law_book.proofs.Untouched.{one_cell_tree}
use Rattle.seam_law_book.proofs.book_and_world.an_empty_book_goes_with_an_opened_world.Goals as goal

pub returns : goal.returns
returns c h legal defs =
    let frame : IsFrame (first_frame h.defs h.settings) = record { defs = defs; tree = one_cell_tree h legal; later = tt } in
    let new = opened_is_new h.defs h.settings frame legal.in_range.some_bases in
    record {
      cells = omega arith;
      known = λ e none k. new e k;
      unshown = λ e none x k r at. absurd (none-some r (sym (ap real_in (new x k)) ∙ at));
      live = λ e made lives. absurd (none-some made lives);
      reals = λ e k r at. absurd (none-some r (sym (ap real_in (new e k)) ∙ at));
      parts = λ e k p at. absurd (none-some p (sym (ap (λ a. a.base.part) (new e k)) ∙ at));
    }
