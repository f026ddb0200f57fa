use Rattle.seam_law_clients.proofs.Prelude.{in_frame}
use Rattle.seam_law_clients.proofs.RoundTruth.{absent_at_start}
use Rattle.seam_law_clients.proofs.Ending.{fits_then}
use Rattle.seam_law_clients.proofs.shown.a_client_fits_where_calls_end.Goals as goal

pub returns : goal.returns
returns c f w b begin copies v es run quiet e ty first client r x began h serves =
    fits_then f w b begin (in_frame f w b begin)
    (λ u us so_far y k q there. c.ghosts_of_a_round_are_true.ensures.true_copies f w b begin copies u us so_far y k q there)
    (λ y n.
    absent_at_start f w b begin (in_frame f w b begin)
    (c.copies_go_from_record_to_record.ensures.loaded f w b begin copies)
    (λ u us so_far z k q there. c.ghosts_of_a_round_are_true.ensures.true_copies f w b begin copies u us so_far z k q there)
    c.others_see_the_ghost.ensures.by_ghost v y n)
    v es run e ty first client r x began h serves quiet
