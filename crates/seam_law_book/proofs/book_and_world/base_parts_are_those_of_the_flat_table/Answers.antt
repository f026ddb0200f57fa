use Rattle.seam_law_book.proofs.Prelude.{◌≡◌, ℕ, ◌++◌, None, sym, ap, ◌∙◌, subst, loaded, created_as, framed, MayBeLoaded, clients_loaded}
use Rattle.seam_law_book.proofs.Prelude.{clients_shown, as_begun, IsUntouched, frame_of, base_node, done_by_part, IsPartInTable, batch_of}
use Rattle.seam_law_book.proofs.Prelude.{in_frame, spared_loaded, search_real, may_begin, may_load}
use Rattle.seam_defs.specs.declared.flags.Part.TheVariants as part
use Rattle.seam_law_book.proofs.Present.{live_is_present}
use Rattle.seam_law_book.proofs.Untouched.{orderly}
use Rattle.seam_law_book.proofs.Given.{present_one}
use Rattle.seam_law_book.proofs.Ended.{live_ended}
use Rattle.seam_law_book.proofs.Parts.{looks_leave_part}
use Rattle.seam_law_book.proofs.Bases.{part_leads}
use Rattle.seam_law_book.proofs.Found.{part_is}
use Rattle.seam_law_book.proofs.PartsTable.{began_somewhere, begins_part, part_in_table}
use Rattle.seam_law_book.proofs.book_and_world.base_parts_are_those_of_the_flat_table.Goals as goal

pub returns-clause-loaded : goal.returns-clause-loaded
returns-clause-loaded c h b t clients w play orders before e p made at there =
    let f = frame_of h t in
    let B = batch_of h b in
    let some = play.legal.in_range.some_bases in
    let R = c.lines_bring_what_fits.ensures.brings h b play.legal play.of_lines in
    let begun = c.lines_bring_what_fits.ensures.begun h b play.of_lines in
    let untouched : (e : ℕ) → created_as (as_begun b) e ≡ None → IsUntouched (as_begun b) e =
    λ e none. c.uncreated_numbers_are_untouched.ensures h (as_begun b) play.legal begun e none in
    let may = c.what_lines_bring_fits.ensures.given h b t clients w play in
    let present = present_one h some b t w play.keeps.reals play.goes R untouched play.few play.room in
    begins_part h some b t clients w play.keeps may play.goes R untouched play.few present (orderly h (as_begun b) play.legal begun).senders
    orders before.full before.parts e made there p at

pub returns-clause-called : goal.returns-clause-called
returns-clause-called c h b t clients w play orders before es v run e q made at lives =
    let f = frame_of h t in
    let B = batch_of h b in
    let some = play.legal.in_range.some_bases in
    let R = c.lines_bring_what_fits.ensures.brings h b play.legal play.of_lines in
    let begun = c.lines_bring_what_fits.ensures.begun h b play.of_lines in
    let untouched : (e : ℕ) → created_as (as_begun b) e ≡ None → IsUntouched (as_begun b) e =
    λ e none. c.uncreated_numbers_are_untouched.ensures h (as_begun b) play.legal begun e none in
    let may = c.what_lines_bring_fits.ensures.given h b t clients w play in
    let present = present_one h some b t w play.keeps.reals play.goes R untouched play.few play.room in
    let senders = (orderly h (as_begun b) play.legal begun).senders in
    let loads : MayBeLoaded f w B = may_load play.keeps may in
    let there = began_somewhere h some b t clients w play.keeps may play.goes R untouched play.few present senders orders before.full
    before.parts e made (live_is_present b e made lives)
    (search_real e (loaded w B)) in
    let had = c.a_base_part_of_a_loaded_world_is_ready.ensures.settled f w B loads e there.0 there.1 there.2 in
    let became = part_leads (framed f B) e (loaded w B) v es (in_frame f w B (may_begin play.keeps may))
    (spared_loaded f w B (may_begin play.keeps may) e there.0 there.1 there.2) run (base_node h e) had.part had.here in
    subst (λ l. IsPartInTable h made (orders part.Base e ++ l) q) (sym (ap done_by_part (part_is e v (base_node h e) ∙ at)))
    (part_in_table h some b t clients w play.keeps may play.goes R untouched play.few present senders orders before.full before.parts e
    made (live_is_present b e made lives) had.part had.here v
    became q at)

pub returns-clause-ended : goal.returns-clause-ended
returns-clause-ended c h b t clients w play orders before v round ended e p made at lives =
    let f = frame_of h t in
    let B = batch_of h b in
    let g = framed f B in
    let may = c.what_lines_bring_fits.ensures.given h b t clients w play in
    let then = clients_shown g (clients_loaded f B clients) round.called in
    let called = c.calls_obey_the_laws.ensures.records f clients w play.keeps B may round.call_events round.called round.calls
    round.calls_done in
    let reaped = c.reaps_obey_the_laws.ensures.records g then round.called called round.gone round.may round.reap_events round.reaped
    round.reaps round.reaps_done in
    let on = c.a_book_goes_with_the_world_after_its_round.ensures.round h b t clients w play v round ended in
    let held = on.live e made lives in
    let last = c.the_last_phases_leave_places.ensures.looks g round.reaped reaped.records.reals round.look_events v round.looks e held.cell
    held.real held.here in
    let first = c.the_last_phases_leave_places.ensures.reaps g round.called called.records.reals round.gone round.may round.reap_events
    round.reaped round.reaps e held.cell last.real last.here in
    let left = reaped.records.parts.parts e held.cell last.real last.here in
    let part_called = (c.reaps_obey_the_laws.ensures.laws g then round.called called round.gone round.may round.reap_events round.reaped
    round.reaps).parts e held.cell first.real first.here (base_node h e) left.part left.here in
    let looked = looks_leave_part g round.reaped reaped.records.reals v round.look_events round.looks e last.real.ty left p at in
    let row = returns-clause-called c h b t clients w play orders before round.call_events round.called
    round.calls e left.part made part_called (sym (live_ended b e) ∙ lives) in
    record { version = looked.version ∙ row.version; props = ap (λ s. s.props) looked.state ∙ row.props }
