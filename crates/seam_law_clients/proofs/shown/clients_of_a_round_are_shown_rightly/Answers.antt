use Rattle.seam_law_clients.proofs.Prelude.{in_frame}
use Rattle.seam_law_clients.proofs.RoundTruth.{round_is_true}
use Rattle.seam_law_clients.proofs.Joined.{client_shown, nothing_shown, clients_fit}
use Rattle.seam_law_clients.proofs.shown.clients_of_a_round_are_shown_rightly.Goals as goal

pub returns-clause-shown : goal.returns-clause-shown
returns-clause-shown c = λ f w b may copies clients fit v es run.
    client_shown f w b may clients fit v es run
    (round_is_true f w b may.begin (in_frame f w b may.begin)
    (c.copies_go_from_record_to_record.ensures.loaded f w b may.begin copies)
    (λ u us so_far x k r there.
    c.ghosts_of_a_round_are_true.ensures.true_copies f w b may.begin copies u us so_far x k r there)
    c.others_see_the_ghost.ensures.by_ghost v)

pub returns-clause-bare : goal.returns-clause-bare
returns-clause-bare c = λ f w b may v es run e k r here unseen. nothing_shown f w b may v es run e k r here unseen

pub returns-clause-fits : goal.returns-clause-fits
returns-clause-fits c = λ f w b may copies clients fit v es run quiet.
    clients_fit f w b may clients fit v es run
    (round_is_true f w b may.begin (in_frame f w b may.begin)
    (c.copies_go_from_record_to_record.ensures.loaded f w b may.begin copies)
    (λ u us so_far x k r there.
    c.ghosts_of_a_round_are_true.ensures.true_copies f w b may.begin copies u us so_far x k r there)
    c.others_see_the_ghost.ensures.by_ghost v)
    (λ e ty first client r x began h serves.
    c.a_client_fits_where_calls_end.ensures f w b may.begin copies v es run quiet e ty first client r x began h serves)
