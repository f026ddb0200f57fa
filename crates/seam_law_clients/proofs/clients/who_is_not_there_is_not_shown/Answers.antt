use Rattle.seam_law_clients.proofs.Prelude.{in_frame}
use Rattle.seam_law_clients.proofs.RoundTruth.{round_is_true}
use Rattle.seam_law_clients.proofs.Unshown.{never_shown_then}
use Rattle.seam_law_clients.proofs.clients.who_is_not_there_is_not_shown.Goals as goal

pub returns : goal.returns
returns c f w b may copies clients fit v round quiet x never gone =
    never_shown_then f w b may copies v round quiet x gone c.others_see_the_ghost.ensures.by_ghost
    (round_is_true f w b may.begin (in_frame f w b may.begin)
    (c.copies_go_from_record_to_record.ensures.loaded f w b may.begin copies)
    (λ u us so_far y k r there.
    c.ghosts_of_a_round_are_true.ensures.true_copies f w b may.begin copies u us so_far y k r there)
    c.others_see_the_ghost.ensures.by_ghost round.called) clients fit never
