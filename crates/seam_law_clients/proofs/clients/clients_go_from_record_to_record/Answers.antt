use Rattle.seam_law_clients.proofs.Prelude.{clients_loaded, framed}
use Rattle.seam_law_clients.proofs.Loading.{clients_fit_loaded}
use Rattle.seam_law_clients.proofs.Reaping.{clients_fit_reaped}
use Rattle.seam_law_clients.proofs.Room.{have_room}
use Rattle.seam_law_clients.proofs.Round.{reaped_between, reaped_parts, reaped_small, reaped_copies, reaped_placed, reaped_room}
use Rattle.seam_law_clients.proofs.Round.{once_called, fit_reaped, fit_round}
use Rattle.seam_law_clients.proofs.clients.clients_go_from_record_to_record.Goals as goal

pub returns-clause-opened : goal.returns-clause-opened
returns-clause-opened c = c.clients_of_an_opened_world_fit.ensures

pub returns-clause-load : goal.returns-clause-load
returns-clause-load c = clients_fit_loaded

pub returns-clause-calls : goal.returns-clause-calls
returns-clause-calls c = c.clients_of_a_round_are_shown_rightly.ensures.fits

pub returns-clause-reaps : goal.returns-clause-reaps
returns-clause-reaps c = clients_fit_reaped

pub returns-clause-looks : goal.returns-clause-looks
returns-clause-looks c = λ f u between parts small copies placed reach clients fit vs v run quiet.
    c.clients_fit_after_the_looks.ensures f u between copies placed reach (have_room f u parts small) clients fit vs v run quiet

pub returns-clause-room : goal.returns-clause-room
returns-clause-room c = have_room

pub returns-clause-round : goal.returns-clause-round
returns-clause-round c f w b may copies reach clients fit v round quiet =
    let g = framed f b in
    let begun = clients_loaded f b clients in
    let between = reaped_between f w b may copies v round in
    let copied = reaped_copies f w b may copies v round in
    let placed = reaped_placed f w b may copies v round in
    let room = reaped_room f w b may copies v round in
    let called =
    c.clients_of_a_round_are_shown_rightly.ensures.fits f w b may copies begun (clients_fit_loaded f w b may clients fit) round.called
    round.call_events round.calls round.calls_done in
    let reaped = fit_reaped f w b may copies v round begun called in
    let now = once_called f w b may copies v round begun in
    fit_round f w b may copies v round begun quiet
    (c.clients_fit_after_the_looks.ensures g round.reaped between copied placed reach room now reaped round.look_events v round.looks quiet)
    (c.each_client_is_shown_one_look.ensures.all g round.reaped between (reaped_parts f w b may copies v round)
    (reaped_small f w b may copies v round) copied placed reach room now reaped round.look_events v round.looks quiet)
