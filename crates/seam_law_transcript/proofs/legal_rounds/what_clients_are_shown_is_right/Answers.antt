use Rattle.seam_law_transcript.proofs.Prelude.{◌≡◌, ℕ, ◌≤◌, true, false, eqb, ◌++◌, length, None, refl, sym, ap, ◌∙◌, subst, arith}
use Rattle.seam_law_transcript.proofs.Prelude.{length-append, slice_get, list_any, Cell, created_as, live_as, destroys, tree_of}
use Rattle.seam_law_transcript.proofs.Prelude.{with_round_ended, Lists, new_client, after_lines, shown_by_lines, MayShowAll, ShowsRightly}
use Rattle.seam_law_transcript.proofs.Prelude.{one_look, truth_of, rows_of, replica_of, framed, clients_loaded, clients_shown, shown_to}
use Rattle.seam_law_transcript.proofs.Prelude.{as_begun, IsUntouched, frame_of, done_in, may_play, standing_of, batch_of, among_is, cell_at}
use Rattle.seam_law_transcript.proofs.Prelude.{live_ended, has_witness, its_witness}
use Rattle.seam_law_transcript.proofs.LinesHeld.{lines_held, told_held}
use Rattle.seam_defs.specs.declared.flags.Part.TheVariants as part
use Rattle.seam_law_clients.proofs.InTurn.{rightly_append}
use Rattle.seam_law_transcript.proofs.Who.{lives_on, unjoined_before}
use Rattle.seam_law_transcript.proofs.Replicas.{begun_by, shown_is}
use Rattle.seam_law_transcript.proofs.Told.{by_death}
use Rattle.seam_law_transcript.proofs.LookTruth.{look_is_true}
use Rattle.seam_law_transcript.proofs.Looked.{within, own_is, others_are}
use Rattle.seam_law_transcript.proofs.legal_rounds.what_clients_are_shown_is_right.Goals as goal

pub returns : goal.returns
returns c h s tree w v p bounds next x is shown =
    let b = s.book in
    let e = x.entity in
    let B = batch_of h b in
    let f = frame_of h tree in
    let g = framed f B in
    let play = may_play h s tree w p.beside in
    let round = p.round in
    let t = standing_of h s tree w v p bounds next in
    let truth = truth_of h s t x in
    let rows = rows_of h t.orders p.live in
    let clients = replica_of h s in
    let R = c.lines_bring_what_fits.ensures.brings h b play.legal play.of_lines in
    let untouched : (d : ℕ) → created_as (as_begun b) d ≡ None → IsUntouched (as_begun b) d =
    λ d none. c.uncreated_numbers_are_untouched.ensures h (as_begun b) play.legal
    (c.lines_bring_what_fits.ensures.begun h b play.of_lines) d none in
    let may = c.what_lines_bring_fits.ensures.given h b tree clients w play in
    let mid = clients_shown g (clients_loaded f B clients) round.called in
    let called = c.calls_obey_the_laws.ensures.records f clients w play.keeps B may round.call_events round.called round.calls
    round.calls_done in
    let reaped = c.reaps_obey_the_laws.ensures.records g mid round.called called round.gone round.may round.reap_events round.reaped
    round.reaps round.reaps_done in
    let last = c.looks_obey_the_laws.ensures.records g mid round.reaped reaped round.look_events v round.looks p.ended.quiet in
    let on = c.a_book_goes_with_the_world_after_its_round.ensures.round h b tree clients w play v round p.ended in
    let so_far = c.what_calls_show_of_cell_parts_is_right.ensures h s tree w v p bounds next x is shown in
    let begun : clients_loaded f B clients e ≡ replica_of h s e =
    begun_by (list_any (λ q. eqb q e) B.clients) (new_client h.settings) (replica_of h s e)
    (λ joins.
    ap (after_lines (new_client h.settings))
    (p.beside.between.untold e (unjoined_before h b R untouched e (sym (among_is e B.clients) ∙ joins)))) in
    -- one that dies was shown what it was in the calls
    let in_calls : list_any (destroys e) b.current ≡ true →
    ShowsRightly truth e (replica_of h s e) (shown_by_lines (lines_held h round.called e)) = λ dies.
    subst (ShowsRightly truth e (replica_of h s e)) (sym (shown_is (lines_held h round.called e))) so_far in
    -- one that lives was shown a look at the table after that
    let in_all : list_any (destroys e) b.current ≡ false →
    ShowsRightly truth e (replica_of h s e) (shown_by_lines (lines_held h v e)) = λ not.
    let held = on.live e x (live_ended b e ∙ lives_on b e x is shown not) in
    let was = c.the_last_phases_leave_places.ensures.looks g round.reaped reaped.records.reals round.look_events v round.looks e held.cell
    held.real held.here in
    let y = its_witness g round.reaped reaped.records.reals reaped.records.parts v round.look_events round.looks last.parts e held.cell
    held.real held.here was (has_witness h b (tree_of b) v on last.reals e held.cell held.real held.here shown) in
    let fits = reaped.records.shown.each e held.cell was.real was.here y.0 y.1 in
    let cell = cell_at e held.cell round.reaped was.real (slice_get round.reaped.nodes held.cell) refl was.here in
    let here = (reaped.records.reals.nodes.nodes held.cell (Cell cell.0) cell.1).here in
    let may_come = (c.a_look_is_shown_rightly.ensures.shows g held.cell e was.real y.0 (mid e) cell.0 here
    (within g round.reaped was.real y.0 (mid e) fits)).in_turn in
    let listed : Lists (live_as (with_round_ended b)) p.live = record {
      rising = p.live_listed.rising;
      exact = λ z. (
        (λ has. live_ended b z.entity ∙ (p.live_listed.exact z).0 has),
        (λ lives. (p.live_listed.exact z).1 (sym (live_ended b z.entity) ∙ lives)),
      );
    } in
    let now = c.reals_are_those_of_the_flat_table.ensures.ended h b tree clients w play s.orders p.beside.between.before v round in
    let table = sym (c.a_further_look_shows_nothing.ensures.table g round.reaped reaped.records.reals
    (c.clients_go_from_record_to_record.ensures.room g round.reaped reaped.records.parts reaped.small) round.look_events v round.looks
    p.ended.quiet)
    ∙ c.the_table_of_a_world_is_that_of_the_rules.ensures.rows h (with_round_ended b) (tree_of b) v t.orders on now last.reals p.live
    listed in
    let looked = c.a_look_is_one_look_at_the_table.ensures g round.reaped reaped.records.reals reaped.records.copies reaped.records.places
    reaped.records.reach e held.cell was.real was.here y.0 (mid e) fits cell.0 cell.1 in
    let further : (d : ℕ) → length (s.orders part.Cell d) ≤ length (t.orders part.Cell d) =
    λ d. let l = length-append (s.orders part.Cell d) (done_in h round.called part.Cell d) in omega (arith, l) in
    let look : ShowsRightly truth e (mid e) (one_look (mid e) e rows) = record {
      in_turn = subst (MayShowAll e (mid e)) (looked ∙ ap (one_look (mid e) e) table) may_come;
      true_ = look_is_true truth e (mid e) rows (own_is h s t p.live p.live_listed further x is)
          (others_are h s t p.live p.live_listed further);
    } in
    let one = c.the_table_of_a_world_is_that_of_the_rules.ensures.one_each h b tree clients w play s.orders p.beside.between.before v round
    p.ended p.live p.live_listed e shown held.cell held.real held.here in
    let all = rightly_append truth e (clients_loaded f B clients e) (shown_to g e round.called) (one_look (mid e) e rows)
    (subst (λ r. ShowsRightly truth e r (shown_to g e round.called)) (sym begun) so_far) look in
    subst (ShowsRightly truth e (replica_of h s e)) (sym (shown_is (lines_held h v e) ∙ one))
    (subst (λ r. ShowsRightly truth e r (shown_to g e round.called ++ one_look (mid e) e rows)) begun all) in
    subst (λ ls. ShowsRightly truth e (replica_of h s e) (shown_by_lines ls))
    (sym (c.client_lines_are_gathered.ensures.told h s tree w v p bounds x is shown ∙ told_held h b round.called v e))
    (by_death (λ ls. ShowsRightly truth e (replica_of h s e) (shown_by_lines ls)) (lines_held h round.called e) (lines_held h v e)
    (list_any (destroys e) b.current) in_calls in_all)
