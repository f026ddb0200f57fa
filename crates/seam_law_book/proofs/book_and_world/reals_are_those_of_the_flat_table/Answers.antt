use Rattle.seam_law_book.proofs.Prelude.{◌≡◌, ℕ, None, sym, ap, ◌∙◌, RealView, loaded, created_as, framed, clients_loaded, clients_shown}
use Rattle.seam_law_book.proofs.Prelude.{as_begun, IsUntouched, frame_of, done_in, batch_of, search_real, may_begin}
use Rattle.seam_defs.specs.declared.flags.Part.TheVariants as part
use Rattle.seam_law_book.proofs.Untouched.{orderly}
use Rattle.seam_law_book.proofs.Present.{live_is_present}
use Rattle.seam_law_book.proofs.Given.{present_one}
use Rattle.seam_law_book.proofs.Done.{began_by, done_cell, done_on}
use Rattle.seam_law_book.proofs.Ended.{live_ended}
use Rattle.seam_law_book.proofs.Table.{begins_real, in_table}
use Rattle.seam_law_book.proofs.book_and_world.reals_are_those_of_the_flat_table.Goals as goal

pub returns-clause-loaded : goal.returns-clause-loaded
returns-clause-loaded c h b t clients w play orders before e home r made at there =
    let f = frame_of h t in
    let B = batch_of h b in
    let some = play.legal.in_range.some_bases in
    let R = c.lines_bring_what_fits.ensures.brings h b play.legal play.of_lines in
    let begun = c.lines_bring_what_fits.ensures.begun h b play.of_lines in
    let untouched : (e : ℕ) → created_as (as_begun b) e ≡ None → IsUntouched (as_begun b) e =
    λ e none. c.uncreated_numbers_are_untouched.ensures h (as_begun b) play.legal begun e none in
    let may = c.what_lines_bring_fits.ensures.given h b t clients w play in
    let present = present_one h some b t w play.keeps.reals play.goes R untouched play.few play.room in
    begins_real h some b t clients w play.keeps may play.goes R untouched play.few present (orderly h (as_begun b) play.legal begun).senders
    orders before.full before.reals (c.a_load_begins_at_former_places.ensures.made f w B (may_begin play.keeps may)) e made there home r at

pub returns-clause-called : goal.returns-clause-called
returns-clause-called c h b t clients w play orders before es v run quiet e k q made at lives =
    let f = frame_of h t in
    let B = batch_of h b in
    let some = play.legal.in_range.some_bases in
    let R = c.lines_bring_what_fits.ensures.brings h b play.legal play.of_lines in
    let begun = c.lines_bring_what_fits.ensures.begun h b play.of_lines in
    let untouched : (e : ℕ) → created_as (as_begun b) e ≡ None → IsUntouched (as_begun b) e =
    λ e none. c.uncreated_numbers_are_untouched.ensures h (as_begun b) play.legal begun e none in
    let may = c.what_lines_bring_fits.ensures.given h b t clients w play in
    let present = present_one h some b t w play.keeps.reals play.goes R untouched play.few play.room in
    let laws = c.calls_obey_the_laws.ensures.laws f clients w play.keeps B may es v run in
    let ends = c.calls_obey_the_laws.ensures.ends f clients w play.keeps B may es v run quiet in
    let then = clients_shown (framed f B) (clients_loaded f B clients) v in
    let within = c.calls_obey_the_laws.ensures.records f clients w play.keeps B may es v run quiet in
    let p = began_by h some b t clients w play.keeps may play.goes R untouched play.few present v es run laws ends then within e k q at
    (search_real e (loaded w B)) in
    in_table h some b t clients w play.keeps may play.goes R untouched play.few present (orderly h (as_begun b) play.legal begun).senders
    orders before.full
    before.reals
    (c.a_load_begins_at_former_places.ensures.made f w B (may_begin play.keeps may)) e made
    (live_is_present b e made lives) p.0 p.1 p.2 v laws k q at
    (done_in h v part.Cell e)
    (done_cell h some b t clients w play.keeps may play.goes R untouched play.few present v es run laws ends then within e k q at)
    (done_on h some b t clients w play.keeps may play.goes R untouched play.few present v es run laws ends then within e k q at made
    (live_is_present b e made lives) part.Cell)

pub returns-clause-ended : goal.returns-clause-ended
returns-clause-ended c h b t clients w play orders before v round e k q made at lives =
    let f = frame_of h t in
    let B = batch_of h b in
    let g = framed f B in
    let may = c.what_lines_bring_fits.ensures.given h b t clients w play in
    let then = clients_shown g (clients_loaded f B clients) round.called in
    let called = c.calls_obey_the_laws.ensures.records f clients w play.keeps B may round.call_events round.called round.calls
    round.calls_done in
    let reaped = c.reaps_obey_the_laws.ensures.records g then round.called called round.gone round.may round.reap_events round.reaped
    round.reaps round.reaps_done in
    let last = c.the_last_phases_leave_places.ensures.looks g round.reaped reaped.records.reals round.look_events v round.looks e k q at in
    let first = c.the_last_phases_leave_places.ensures.reaps g round.called called.records.reals round.gone round.may round.reap_events
    round.reaped round.reaps e k last.real last.here in
    let row = returns-clause-called c h b t clients w play orders before round.call_events round.called
    round.calls round.calls_done e k first.real made first.here (sym (live_ended b e) ∙ lives) in
    record {
      version = ap (λ (y : RealView). y.version) last.same ∙ ap (λ (y : RealView). y.version) first.same ∙ row.version;
      state = ap (λ (y : RealView). y.state) last.same ∙ ap (λ (y : RealView). y.state) first.same ∙ row.state;
      public = ap (λ (y : RealView). y.public) last.same ∙ ap (λ (y : RealView). y.public) first.same ∙ row.public;
    }
