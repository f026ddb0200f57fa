use Rattle.std.proofs.Common.{◌≡◌, ℕ, None}
use Rattle.seam_rule_rounds.specs.Prelude.{created_as, replica_of}
use Rattle.seam_law_rounds.specs.Prelude.{framed}
use Rattle.seam_law_clients.specs.Prelude.{clients_loaded, clients_shown}
use Rattle.seam_law_book.specs.Prelude.{as_begun, IsUntouched, frame_of, done_in}
use Rattle.seam_law_transcript.specs.Prelude.{may_play}
use Rattle.seam_accept.specs.Batches.{batch_of}
use Rattle.seam_world_text.proofs.Entries.{makes_new}
use Rattle.seam_world_text.proofs.Idle.{idle}
use Rattle.seam_world_text.proofs.laws.a_round_is_read_at_rest.Goals as goal

pub returns : goal.returns
returns c h s tree w v p =
    let b = s.book in
    let B = batch_of h b in
    let f = frame_of h tree in
    let g = framed f B in
    let play = may_play h s tree w p.beside in
    let round = p.round in
    let clients = replica_of h s in
    let R = c.lines_bring_what_fits.ensures.brings h b play.legal play.of_lines in
    let untouched : (e : ℕ) → created_as (as_begun b) e ≡ None → IsUntouched (as_begun b) e =
    λ e none. c.uncreated_numbers_are_untouched.ensures h (as_begun b) play.legal
    (c.lines_bring_what_fits.ensures.begun h b play.of_lines) e none in
    let may = c.what_lines_bring_fits.ensures.given h b tree clients w play in
    let then = clients_shown g (clients_loaded f B clients) round.called in
    let called = c.calls_obey_the_laws.ensures.records f clients w play.keeps B may round.call_events round.called round.calls
    round.calls_done in
    let reaped = c.reaps_obey_the_laws.ensures.records g then round.called called round.gone round.may round.reap_events round.reaped
    round.reaps round.reaps_done in
    let last = c.looks_obey_the_laws.ensures.records g then round.reaped reaped round.look_events v round.looks p.ended.quiet in
    let full = c.each_part_executed_what_was_accepted.ensures.full h b tree clients w play round.call_events round.called round.calls
    round.calls_done s.orders p.beside.between.before.full in
    record {
      called = called.records.reals;
      ended = last.reals;
      idle = λ q x dead.
          idle h b R (makes_new h b R untouched) x.entity dead q (s.orders q x.entity) (done_in h round.called q x.entity)
          (p.beside.between.before.full q x.entity) (full q x.entity);
      copies = last.copies;
      goes = c.a_book_goes_with_the_world_after_its_round.ensures.round h b tree clients w play v round p.ended;
    }
