use Rattle.seam_law_transcript.proofs.Prelude.{◌≡◌, ℕ, true, eqb, ◌++◌, Some, None, sym, ap, ◌∙◌, subst, inl, inr, is_some, if◌then◌else◌}
use Rattle.seam_law_transcript.proofs.Prelude.{list_any, cases_eq, Create, RealView, entries, creates_of, created_as, live_as, joins}
use Rattle.seam_law_transcript.proofs.Prelude.{destroys, new_client, after_all_shown, after_lines, told_in, replica_of, letters_of}
use Rattle.seam_law_transcript.proofs.Prelude.{shown_in, real_at, framed, MayBeLoaded, clients_loaded, clients_shown, as_begun, IsUntouched}
use Rattle.seam_law_transcript.proofs.Prelude.{frame_of, may_play, data_of, standing_of, clients_ended_in, live_is_created, found_entity}
use Rattle.seam_law_transcript.proofs.Prelude.{batch_of, any_split, alive, neither, undestroyed, among_is, live_ended, client_of, may_load}
use Rattle.seam_law_transcript.proofs.LinesHeld.{lines_held, told_held}
use Rattle.seam_law_transcript.proofs.Who.{unjoined_before}
use Rattle.seam_law_transcript.proofs.Replicas.{begun_by, after_more, fit_by, is_shown_by}
use Rattle.seam_law_transcript.proofs.legal_rounds.clients_show_what_they_were_told.Goals as goal

pub returns-clause-replicas : goal.returns-clause-replicas
returns-clause-replicas c h s tree w v p bounds next e k q at seen =
    let b = s.book in
    let B = batch_of h b in
    let f = frame_of h tree in
    let g = framed f B in
    let play = may_play h s tree w p.beside in
    let round = p.round in
    let r = data_of h s tree w v p bounds in
    let clients = replica_of h s in
    let R = c.lines_bring_what_fits.ensures.brings h b play.legal play.of_lines in
    let untouched : (d : ℕ) → created_as (as_begun b) d ≡ None → IsUntouched (as_begun b) d =
    λ d none. c.uncreated_numbers_are_untouched.ensures h (as_begun b) play.legal
    (c.lines_bring_what_fits.ensures.begun h b play.of_lines) d none in
    let may = c.what_lines_bring_fits.ensures.given h b tree clients w play in
    let mid = clients_shown g (clients_loaded f B clients) round.called in
    let called = c.calls_obey_the_laws.ensures.records f clients w play.keeps B may round.call_events round.called round.calls
    round.calls_done in
    let reaped = c.reaps_obey_the_laws.ensures.records g mid round.called called round.gone round.may round.reap_events round.reaped
    round.reaps round.reaps_done in
    let last = c.looks_obey_the_laws.ensures.records g mid round.reaped reaped round.look_events v round.looks p.ended.quiet in
    let on = c.a_book_goes_with_the_world_after_its_round.ensures.round h b tree clients w play v round p.ended in
    let begun : (e : ℕ) → clients_loaded f B clients e ≡ replica_of h s e = λ e.
    begun_by (list_any (λ x. eqb x e) B.clients) (new_client h.settings) (replica_of h s e)
    (λ is.
    ap (after_lines (new_client h.settings))
    (p.beside.between.untold e (unjoined_before h b R untouched e (sym (among_is e B.clients) ∙ is)))) in
    -- of one that lives, and was shown these lines in all
    let told : (x : Create) → live_as b x.entity ≡ Some x → list_any (joins x.entity) (entries b) ≡ true →
    told_in r x.entity ≡ lines_held h v x.entity = λ x lives joined.
    let e = x.entity in
    let made = live_is_created b e x lives in
    let not_before = (neither (list_any (destroys e) b.past) (list_any (destroys e) b.current)
    (sym (any_split b e (destroys e)) ∙ alive b e x lives)).0 in
    c.client_lines_are_gathered.ensures.told h s tree w v p bounds x made (is_shown_by b e x made joined not_before)
    ∙ told_held h b round.called v e ∙ ap (λ n. if n then lines_held h round.called e else lines_held h v e) (undestroyed b e x lives) in
    let l = on.reals e k q at in
    let lives = sym (live_ended b e) ∙ l.1 in
    let held = on.live e l.0 l.1 in
    let real : held.real ≡ q = elim (cases_eq held.cell k) [
      | inl is ↦ (let z = sym held.here ∙ (ap (λ j. real_at e v j) is ∙ at) in cc)
      | inr other ↦ absurd (let z = sym ((last.reals.settled e k q at).others held.cell other) ∙ held.here in cc)
    ] in
    let joined = sym (client_of b e l.0 lives) ∙ sym held.client ∙ ap (λ (z : RealView). is_some z.witness) real ∙ seen in
    let number = found_entity (creates_of (entries b)) e l.0 (live_is_created b e l.0 lives) in
    let its : told_in r e ≡ lines_held h v e =
    subst (λ d. told_in r d ≡ lines_held h v d) number
    (told l.0 (ap (live_as b) number ∙ lives) (ap (λ d. list_any (joins d) (entries b)) number ∙ joined)) in
    ap (λ z. after_all_shown z (letters_of shown_in (lines_held h v e))) (begun e)
    ∙ sym (after_more (new_client h.settings) (s.told e) (lines_held h v e))
    ∙ ap (λ ls. after_lines (new_client h.settings) (s.told e ++ ls)) (sym its)

pub returns-clause-records : goal.returns-clause-records
returns-clause-records c h s tree w v p bounds next =
    let b = s.book in
    let B = batch_of h b in
    let f = frame_of h tree in
    let g = framed f B in
    let play = may_play h s tree w p.beside in
    let round = p.round in
    let clients = replica_of h s in
    let may = c.what_lines_bring_fits.ensures.given h b tree clients w play in
    let loads : MayBeLoaded f w B = may_load play.keeps may in
    let mid = clients_shown g (clients_loaded f B clients) round.called in
    let called = c.calls_obey_the_laws.ensures.records f clients w play.keeps B may round.call_events round.called round.calls
    round.calls_done in
    let reaped = c.reaps_obey_the_laws.ensures.records g mid round.called called round.gone round.may round.reap_events round.reaped
    round.reaps round.reaps_done in
    let last = c.looks_obey_the_laws.ensures.records g mid round.reaped reaped round.look_events v round.looks p.ended.quiet in
    record {
      reals = last.reals;
      parts = last.parts;
      places = last.places;
      copies = last.copies;
      shown = fit_by g (clients_ended_in h s tree w v p) (replica_of h (standing_of h s tree w v p bounds next)) v
          (c.clients_go_from_record_to_record.ensures.round f w B loads play.keeps.copies play.keeps.reach clients play.keeps.shown v round
          p.ended.quiet)
          (λ e k q at y has. returns-clause-replicas c h s tree w v p bounds next e k q at (ap is_some has));
      reach = last.reach;
    }
