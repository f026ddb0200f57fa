use Rattle.seam_law_clients.proofs.Prelude.{Some, refl, sym, subst, WitnessView, shown_of, known_to, FitsWithin, truth_of_look}
use Rattle.seam_law_clients.proofs.Prelude.{after_all_shown}
use Rattle.seam_law_clients.proofs.Looking.{look_shows, look_fits}
use Rattle.seam_law_clients.proofs.shown.a_look_is_shown_rightly.Goals as goal

pub returns-clause-shows : goal.returns-clause-shows
returns-clause-shows c f k e r v client cell here fits =
    look_shows f k e r v client fits cell (truth_of_look f r cell e) (refl, refl) (λ x d is. is) here

pub returns-clause-fits : goal.returns-clause-fits
returns-clause-fits c f k e r v client cell here fits after is =
    subst
    (λ (x : WitnessView).
    FitsWithin f (record r { witness = Some x }) x (after_all_shown client (shown_of cell.here r v (known_to cell e))))
    (sym is) (look_fits f k e r v client fits cell here)
