use Rattle.seam_law_book.proofs.Prelude.{◌≡◌, ℕ, None, arith, created_as, framed, MayBeLoaded, clients_loaded, clients_shown}
use Rattle.seam_law_book.proofs.Prelude.{clients_looked, may_load, IsUntouched, as_begun, frame_of, batch_of}
use Rattle.seam_law_book.proofs.Given.{present_one}
use Rattle.seam_law_book.proofs.Ended.{goes_again}
use Rattle.seam_law_book.proofs.book_and_world.a_book_goes_with_the_world_after_its_round.Goals as goal

pub returns-clause-round : goal.returns-clause-round
returns-clause-round c h b t clients w play v round ended =
    let f = frame_of h t in
    let B = batch_of h b in
    let g = framed f B in
    let some = play.legal.in_range.some_bases in
    let R = c.lines_bring_what_fits.ensures.brings h b play.legal play.of_lines in
    let untouched : (e : ℕ) → created_as (as_begun b) e ≡ None → IsUntouched (as_begun b) e =
    λ e none. c.uncreated_numbers_are_untouched.ensures h (as_begun b) play.legal
    (c.lines_bring_what_fits.ensures.begun h b play.of_lines) e none in
    let may = c.what_lines_bring_fits.ensures.given h b t clients w play in
    let loads : MayBeLoaded f w B = may_load play.keeps may in
    let then = clients_shown g (clients_loaded f B clients) round.called in
    let called = c.calls_obey_the_laws.ensures.records f clients w play.keeps B may round.call_events round.called round.calls
    round.calls_done in
    let reaped = c.reaps_obey_the_laws.ensures.records g then round.called called round.gone round.may round.reap_events round.reaped
    round.reaps round.reaps_done in
    goes_again h some b t clients w play.keeps may play.goes R untouched play.few
    (present_one h some b t w play.keeps.reals play.goes R untouched play.few play.room) v round ended.gone (record {
      ready = λ e home r at. c.a_base_part_of_a_loaded_world_is_ready.ensures.settled f w B loads e home r at;
      calls = c.calls_obey_the_laws.ensures.laws f clients w play.keeps B may round.call_events round.called round.calls;
      ends = λ e home r here k q at. c.calls_obey_the_laws.ensures.ends f clients w play.keeps B may round.call_events round.called
          round.calls
          round.calls_done e home r here k q at;
      then = then;
      called = called;
      reaps = c.reaps_obey_the_laws.ensures.laws g then round.called called round.gone round.may round.reap_events round.reaped round.reaps;
      gone = c.reaps_obey_the_laws.ensures.gone g then round.called called round.gone round.may round.reap_events round.reaped round.reaps
          round.reaps_done;
      reaped = reaped;
      looks = c.looks_obey_the_laws.ensures.laws g then round.reaped reaped round.look_events v round.looks;
      last = clients_looked then round.reaped;
      records = c.looks_obey_the_laws.ensures.records g then round.reaped reaped round.look_events v round.looks ended.quiet;
    }) ended.quiet
    (λ x. c.who_is_not_there_is_not_shown.ensures f w B loads play.keeps.copies clients play.keeps.shown v round ended.quiet x)

pub returns-clause-balanced : goal.returns-clause-balanced
returns-clause-balanced c h b t u w goes may = record {
  cells = let low = goes.cells in let same = may.cells in omega (arith, low, same);
  known = goes.known;
  unshown = goes.unshown;
  live = λ e made lives.
      let held = goes.live e made lives in
      record {
        cell = held.cell;
        real = held.real;
        here = held.here;
        type = held.type;
        client = held.client;
        base = held.base;
        base_here = held.base_here;
        base_type = held.base_type;
        cell_calls = held.cell_calls;
        base_calls = held.base_calls;
      };
  reals = goes.reals;
  parts = goes.parts;
}
