use Rattle.seam_law_book.proofs.Prelude.{◌≡◌, List, [], ◌++◌, sym, ap, ◌∙◌, subst, inl, inr, ◌⊎◌, IsView, Create, Book, live_as, tree_of}
use Rattle.seam_law_book.proofs.Prelude.{with_round_ended, Lists, rows_but, look_by, one_look, properties, letters_of, shown_in, lines_in}
use Rattle.seam_law_book.proofs.Prelude.{proxy_of, framed, clients_loaded, clients_shown, clients_looked, shown_to, frame_of, base_node}
use Rattle.seam_law_book.proofs.Prelude.{done_in, with_done, batch_of, Somewhere, Nowhere, search_real, row_found, row_nowhere}
use Rattle.seam_law_clients.specs.Tables as world
use Rattle.seam_law_book.proofs.Ended.{live_ended}
use Rattle.seam_law_book.proofs.Rows.{rows_are}
use Rattle.seam_law_book.proofs.Further.{has_witness, its_witness}
use Rattle.seam_law_book.proofs.book_and_world.the_table_of_a_world_is_that_of_the_rules.Goals as goal

-- those who live in a book live in it with its round ended
still_listed : (b : Book) (live : List Create) → Lists (live_as b) live → Lists (live_as (with_round_ended b)) live
still_listed b live listed = record {
  rising = listed.rising;
  exact = λ x. (
    (λ has. live_ended b x.entity ∙ (listed.exact x).0 has),
    (λ lives. (listed.exact x).1 (sym (live_ended b x.entity) ∙ lives)),
  );
}

pub returns-clause-rows : goal.returns-clause-rows
returns-clause-rows c h b tree v orders goes rows between live listed =
    rows_are (λ g x s t same. c.others_see_the_ghost.ensures.shown (properties g x) s t same) h b tree v orders goes rows between
    live listed

pub returns-clause-nothing_left : goal.returns-clause-nothing_left
returns-clause-nothing_left c h b t clients w play orders before v round ended live listed e shown =
    let f = frame_of h t in
    let B = batch_of h b in
    let g = framed f B in
    let may = c.what_lines_bring_fits.ensures.given h b t clients w play in
    let then = clients_shown g (clients_loaded f B clients) round.called in
    let called = c.calls_obey_the_laws.ensures.records f clients w play.keeps B may round.call_events round.called round.calls
    round.calls_done in
    let reaped = c.reaps_obey_the_laws.ensures.records g then round.called called round.gone round.may round.reap_events round.reaped
    round.reaps round.reaps_done in
    let last = c.looks_obey_the_laws.ensures.records g then round.reaped reaped round.look_events v round.looks ended.quiet in
    let on = c.a_book_goes_with_the_world_after_its_round.ensures.round h b t clients w play v round ended in
    let now = c.reals_are_those_of_the_flat_table.ensures.ended h b t clients w play orders before v round in
    let same = returns-clause-rows c h (with_round_ended b) (tree_of b) v (with_done orders (done_in h round.called)) on now last.reals live
    (still_listed b live listed) in
    let client = clients_looked then round.reaped e in
    let left : Somewhere e v ⊎ Nowhere e v → one_look client e (world.rows_of v) ≡ [] = λ s. elim s [
      | inl p ↦
          let was = c.the_last_phases_leave_places.ensures.looks g round.reaped reaped.records.reals round.look_events v round.looks e p.0
          p.1
          p.2 in
          let seen = has_witness h b (tree_of b) v on last.reals e p.0 p.1 p.2 shown in
          let x = its_witness g round.reaped reaped.records.reals reaped.records.parts v round.look_events round.looks last.parts e p.0 p.1
          p.2 was seen in
          let fits = reaped.records.shown.each e p.0 was.real was.here x.0 x.1 in
          c.a_further_look_shows_nothing.ensures.after g round.reaped reaped.records.reals
          (c.clients_go_from_record_to_record.ensures.room g round.reaped reaped.records.parts reaped.small) round.look_events v round.looks
          ended.quiet (then e) (subst IsView (sym fits.others) fits.view) e
      | inr n ↦
          ap (λ o. look_by client o (rows_but e (world.rows_of v))) (row_found v e ∙ row_nowhere g v last.reals e n)
    ] in
    sym (ap (one_look client e) same) ∙ left (search_real e v)

pub returns-clause-one_each : goal.returns-clause-one_each
returns-clause-one_each c h b t clients w play orders before v round ended live listed e shown k q at =
    let f = frame_of h t in
    let B = batch_of h b in
    let g = framed f B in
    let may = c.what_lines_bring_fits.ensures.given h b t clients w play in
    let then = clients_shown g (clients_loaded f B clients) round.called in
    let called = c.calls_obey_the_laws.ensures.records f clients w play.keeps B may round.call_events round.called round.calls
    round.calls_done in
    let reaped = c.reaps_obey_the_laws.ensures.records g then round.called called round.gone round.may round.reap_events round.reaped
    round.reaps round.reaps_done in
    let last = c.looks_obey_the_laws.ensures.records g then round.reaped reaped round.look_events v round.looks ended.quiet in
    let on = c.a_book_goes_with_the_world_after_its_round.ensures.round h b t clients w play v round ended in
    let now = c.reals_are_those_of_the_flat_table.ensures.ended h b t clients w play orders before v round in
    let same = returns-clause-rows c h (with_round_ended b) (tree_of b) v (with_done orders (done_in h round.called)) on now last.reals live
    (still_listed b live listed) in
    let was = c.the_last_phases_leave_places.ensures.looks g round.reaped reaped.records.reals round.look_events v round.looks e k q at in
    let first = c.the_last_phases_leave_places.ensures.reaps g round.called called.records.reals round.gone round.may round.reap_events
    round.reaped round.reaps e k was.real was.here in
    let x = its_witness g round.reaped reaped.records.reals reaped.records.parts v round.look_events round.looks last.parts e k q at was
    (has_witness h b (tree_of b) v on last.reals e k q at shown) in
    let left = reaped.records.parts.parts e k was.real was.here in
    let part_called = (c.reaps_obey_the_laws.ensures.laws g then round.called called round.gone round.may round.reap_events round.reaped
    round.reaps).parts e k first.real first.here (base_node h e) left.part left.here in
    let table = c.a_further_look_shows_nothing.ensures.table g round.reaped reaped.records.reals
    (c.clients_go_from_record_to_record.ensures.room g round.reaped reaped.records.parts reaped.small) round.look_events v round.looks
    ended.quiet in
    c.looks_obey_the_laws.ensures.shown g then round.reaped reaped round.look_events v round.looks ended.quiet e k was.real was.here x.0 x.1
    ∙ ap (λ o. letters_of shown_in (lines_in (proxy_of o)) ++ one_look (then e) e (world.rows_of round.reaped)) (left.here ∙ sym
    part_called)
    ∙ ap (λ rs. shown_to g e round.called ++ one_look (then e) e rs) (sym table ∙ same)
