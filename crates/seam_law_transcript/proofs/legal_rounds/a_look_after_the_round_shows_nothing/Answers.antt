use Rattle.seam_law_transcript.proofs.Prelude.{◌≡◌, [], sym, ap, ◌∙◌, subst, inl, inr, ◌⊎◌, fold-append, IsView, live_as, tree_of}
use Rattle.seam_law_transcript.proofs.Prelude.{with_round_ended, Lists, after_shown, after_all_shown, rows_but, look_by, one_look, rows_of}
use Rattle.seam_law_transcript.proofs.Prelude.{replica_of, framed, clients_loaded, clients_shown, shown_to, frame_of, may_play, standing_of}
use Rattle.seam_law_transcript.proofs.Prelude.{batch_of, Somewhere, Nowhere, search_real, row_found, row_nowhere, live_ended, has_witness}
use Rattle.seam_law_transcript.proofs.Prelude.{its_witness}
use Rattle.seam_law_clients.specs.Tables as world
use Rattle.seam_law_transcript.proofs.legal_rounds.a_look_after_the_round_shows_nothing.Goals as goal

pub returns : goal.returns
returns c h s tree w v p bounds next e shown =
    let b = s.book in
    let B = batch_of h b in
    let f = frame_of h tree in
    let g = framed f B in
    let play = may_play h s tree w p.beside in
    let round = p.round in
    let t = standing_of h s tree w v p bounds next in
    let clients = replica_of h s in
    let rows = rows_of h t.orders p.live in
    let may = c.what_lines_bring_fits.ensures.given h b tree clients w play in
    let then = clients_shown g (clients_loaded f B clients) round.called in
    let called = c.calls_obey_the_laws.ensures.records f clients w play.keeps B may round.call_events round.called round.calls
    round.calls_done in
    let reaped = c.reaps_obey_the_laws.ensures.records g then round.called called round.gone round.may round.reap_events round.reaped
    round.reaps round.reaps_done in
    let last = c.looks_obey_the_laws.ensures.records g then round.reaped reaped round.look_events v round.looks p.ended.quiet in
    let on = c.a_book_goes_with_the_world_after_its_round.ensures.round h b tree clients w play v round p.ended in
    let now = c.reals_are_those_of_the_flat_table.ensures.ended h b tree clients w play s.orders p.beside.between.before v round in
    let listed : Lists (live_as (with_round_ended b)) p.live = record {
      rising = p.live_listed.rising;
      exact = λ x. (
        (λ has. live_ended b x.entity ∙ (p.live_listed.exact x).0 has),
        (λ lives. (p.live_listed.exact x).1 (sym (live_ended b x.entity) ∙ lives)),
      );
    } in
    let table = c.the_table_of_a_world_is_that_of_the_rules.ensures.rows h (with_round_ended b) (tree_of b) v t.orders on now last.reals
    p.live listed in
    let left : Somewhere e v ⊎ Nowhere e v → one_look (replica_of h t e) e rows ≡ [] = λ at. elim at [
      | inl q ↦
          let seen = has_witness h b (tree_of b) v on last.reals e q.0 q.1 q.2 shown in
          let was = c.the_last_phases_leave_places.ensures.looks g round.reaped reaped.records.reals round.look_events v round.looks e q.0
          q.1 q.2 in
          let x = its_witness g round.reaped reaped.records.reals reaped.records.parts v round.look_events round.looks last.parts e q.0
          q.1 q.2 was seen in
          let fits = reaped.records.shown.each e q.0 was.real was.here x.0 x.1 in
          let one = c.the_table_of_a_world_is_that_of_the_rules.ensures.one_each h b tree clients w play s.orders p.beside.between.before v
          round
          p.ended p.live p.live_listed e shown q.0 q.1 q.2 in
          let looked : replica_of h t e ≡ after_all_shown (then e) (one_look (then e) e rows) =
          sym (c.clients_show_what_they_were_told.ensures.replicas h s tree w v p bounds next e q.0 q.1 q.2 seen)
          ∙ ap (after_all_shown (clients_loaded f B clients e)) one
          ∙ fold-append after_shown (clients_loaded f B clients e) (shown_to g e round.called) (one_look (then e) e rows) in
          let none = c.a_further_look_shows_nothing.ensures.same v (then e) (subst IsView (sym fits.others) fits.view) e in
          ap (λ z. one_look z e rows) looked
          ∙ ap (λ rs. one_look (after_all_shown (then e) (one_look (then e) e rs)) e rs) (sym table) ∙ none
      | inr n ↦
          sym (ap (one_look (replica_of h t e) e) table)
          ∙ ap (λ o. look_by (replica_of h t e) o (rows_but e (world.rows_of v))) (row_found v e ∙ row_nowhere g v last.reals e n)
    ] in
    left (search_real e v)
