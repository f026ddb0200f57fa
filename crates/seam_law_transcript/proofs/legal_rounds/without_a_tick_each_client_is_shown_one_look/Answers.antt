use Rattle.seam_law_transcript.proofs.Prelude.{◌≡◌, ℕ, true, false, eqb, [], ◌++◌, map, length, None, Some, refl, sym, ap, ◌∙◌, subst, inl}
use Rattle.seam_law_transcript.proofs.Prelude.{inr, append-nil, ◌⊎◌, filter, IsTrue, list_any, Create, entries, creates_of, created_as}
use Rattle.seam_law_transcript.proofs.Prelude.{live_as, destroys, is_shown, tree_of, with_round_ended, Lists, new_client, after_all_shown}
use Rattle.seam_law_transcript.proofs.Prelude.{after_lines, rows_but, look_by, one_look, is_base, base_texts, texts_to, rows_of, replica_of}
use Rattle.seam_law_transcript.proofs.Prelude.{letters_of, shown_in, framed, MayBeLoaded, clients_loaded, clients_shown, as_begun}
use Rattle.seam_law_transcript.proofs.Prelude.{IsUntouched, frame_of, base_node, may_play, data_of, standing_of, found_entity, batch_of}
use Rattle.seam_law_transcript.proofs.Prelude.{undestroyed, Somewhere, Nowhere, search_real, is_among, among_is, row_found, row_nowhere}
use Rattle.seam_law_transcript.proofs.Prelude.{live_ended, may_load}
use Rattle.seam_law_transcript.proofs.LinesHeld.{lines_held, told_held}
use Rattle.seam_call.specs.declared.shown.ClientText.TheVariants as text
use Rattle.seam_law_clients.specs.Tables as world
use Rattle.seam_law_transcript.proofs.Who.{is_present, was_joined, was_created, lives_on, unjoined_before, client_by}
use Rattle.seam_law_transcript.proofs.Replicas.{begun_by}
use Rattle.seam_law_transcript.proofs.Told.{by_death, later_lines}
use Rattle.seam_law_transcript.proofs.OneLook.{one_look_after}
use Rattle.seam_law_transcript.proofs.legal_rounds.without_a_tick_each_client_is_shown_one_look.Goals as goal

pub returns : goal.returns
returns c h s tree w v p bounds next tickless d seen =
    let r = data_of h s tree w v p bounds in
    let t = standing_of h s tree w v p bounds next in
    let rows = rows_of h t.orders p.live in
    let made = was_created s.book d seen in
    let number = found_entity (creates_of (entries s.book)) d made.0 made.1 in
    let of_created : (x : Create) → created_as s.book x.entity ≡ Some x → IsTrue (is_shown s.book x.entity) →
    texts_to r x.entity ≡ base_texts r x.entity ++ map text.Shown (one_look (replica_of h s x.entity) x.entity rows) = λ x is shown.
    let b = s.book in
    let e = x.entity in
    let B = batch_of h b in
    let f = frame_of h tree in
    let g = framed f B in
    let play = may_play h s tree w p.beside in
    let round = p.round in
    let clients = replica_of h s in
    let R = c.lines_bring_what_fits.ensures.brings h b play.legal play.of_lines in
    let untouched : (d : ℕ) → created_as (as_begun b) d ≡ None → IsUntouched (as_begun b) d =
    λ d none. c.uncreated_numbers_are_untouched.ensures h (as_begun b) play.legal
    (c.lines_bring_what_fits.ensures.begun h b play.of_lines) d none in
    let may = c.what_lines_bring_fits.ensures.given h b tree clients w play in
    let loads : MayBeLoaded f w B = may_load play.keeps may in
    let mid = clients_shown g (clients_loaded f B clients) round.called in
    let called = c.calls_obey_the_laws.ensures.records f clients w play.keeps B may round.call_events round.called round.calls
    round.calls_done in
    let there = is_present b e x is shown in
    let l = c.what_lines_bring_fits.ensures.there h b tree clients w play e x there in
    let y = client_by l.base.proxy (l.client ∙ was_joined b e x is shown) in
    let reaped = c.reaps_obey_the_laws.ensures.records g mid round.called called round.gone round.may round.reap_events round.reaped
    round.reaps round.reaps_done in
    let last = c.looks_obey_the_laws.ensures.records g mid round.reaped reaped round.look_events v round.looks p.ended.quiet in
    let on = c.a_book_goes_with_the_world_after_its_round.ensures.round h b tree clients w play v round p.ended in
    let now = c.reals_are_those_of_the_flat_table.ensures.ended h b tree clients w play s.orders p.beside.between.before v round in
    let listed : Lists (live_as (with_round_ended b)) p.live = record {
      rising = p.live_listed.rising;
      exact = λ z. (
        (λ has. live_ended b z.entity ∙ (p.live_listed.exact z).0 has),
        (λ lives. (p.live_listed.exact z).1 (sym (live_ended b z.entity) ∙ lives)),
      );
    } in
    let table = c.the_table_of_a_world_is_that_of_the_rules.ensures.rows h (with_round_ended b) (tree_of b) v t.orders on now last.reals
    p.live listed in
    let none = c.without_a_tick_calls_show_no_cell_parts.ensures h s tree w v p tickless x is shown in
    let told = c.client_lines_are_gathered.ensures.told h s tree w v p bounds x is shown ∙ told_held h b round.called v e in
    let look = one_look (replica_of h s e) e rows in
    -- of one that dies in the round
    let dead : list_any (destroys e) b.current ≡ true → look ≡ [] = λ dies.
    let gone : Somewhere e v ⊎ Nowhere e v → look ≡ [] = λ at. elim at [
      | inl q ↦
          let alive = on.reals e q.0 q.1 q.2 in
          let lives = undestroyed b e alive.0 (sym (live_ended b e) ∙ alive.1) in
          absurd (let z = sym lives ∙ dies in cc)
      | inr n ↦
          sym (ap (one_look (replica_of h s e) e) table)
          ∙ ap (λ o. look_by (replica_of h s e) o (rows_but e (world.rows_of v))) (row_found v e ∙ row_nowhere g v last.reals e n)
    ] in gone (search_real e v) in
    let in_calls : list_any (destroys e) b.current ≡ true →
    map (λ l. l.text) (lines_held h round.called e) ≡ filter is_base (map (λ l. l.text) (lines_held h round.called e))
    ++ map text.Shown look =
    λ dies.
    subst (λ ls. map (λ l. l.text) ls ≡ filter is_base (map (λ l. l.text) ls) ++ map text.Shown look)
    (append-nil (lines_held h round.called e))
    (one_look_after (lines_held h round.called e) [] look none refl
    (ap (letters_of shown_in) (append-nil (lines_held h round.called e)) ∙ none ∙ sym (dead dies))) in
    -- of one that lives
    let new : is_among e B.clients ≡ true → length (s.told e) ≡ 0 =
    λ among. ap length (p.beside.between.untold e (unjoined_before h b R untouched e among)) in
    let begun : clients_loaded f B clients e ≡ replica_of h s e =
    begun_by (list_any (λ q. eqb q e) B.clients) (new_client h.settings) (replica_of h s e)
    (λ joins.
    ap (after_lines (new_client h.settings))
    (p.beside.between.untold e (unjoined_before h b R untouched e (sym (among_is e B.clients) ∙ joins)))) in
    let in_all : list_any (destroys e) b.current ≡ false →
    map (λ l. l.text) (lines_held h v e) ≡ filter is_base (map (λ l. l.text) (lines_held h v e)) ++ map text.Shown look = λ not.
    let shows = c.the_base_part_is_shown_at_each_change.ensures.round f w B loads e l.cell l.real l.here round.called round.call_events
    round.calls l.base y.0 l.base_here y.1 in
    let held = on.live e x (live_ended b e ∙ lives_on b e x is shown not) in
    let was = c.the_last_phases_leave_places.ensures.looks g round.reaped reaped.records.reals round.look_events v round.looks e held.cell
    held.real held.here in
    let before = c.the_last_phases_leave_places.ensures.reaps g round.called called.records.reals round.gone round.may round.reap_events
    round.reaped round.reaps e held.cell was.real was.here in
    let left = reaped.records.parts.parts e held.cell was.real was.here in
    let same = (c.reaps_obey_the_laws.ensures.laws g mid round.called called round.gone round.may round.reap_events round.reaped
    round.reaps).parts e held.cell before.real before.here (base_node h e) left.part left.here in
    let later = later_lines f w B loads e (length (s.told e)) (p.beside.between.numbers e) new l.base y.0 l.base_here y.1 round.called shows
    round.reaped v reaped.records.reals round.look_events round.looks was.real.ty left same in
    let one = c.the_table_of_a_world_is_that_of_the_rules.ensures.one_each h b tree clients w play s.orders p.beside.between.before v round
    p.ended p.live p.live_listed e shown held.cell held.real held.here in
    let looked : letters_of shown_in (lines_held h v e) ≡ look =
    one ∙ ap (λ l. l ++ one_look (mid e) e rows) none
    ∙ ap (λ z. one_look z e rows) (ap (after_all_shown (clients_loaded f B clients e)) none ∙ begun) in
    subst (λ ls. map (λ l. l.text) ls ≡ filter is_base (map (λ l. l.text) ls) ++ map text.Shown look) (sym later.1)
    (one_look_after (lines_held h round.called e) later.0 look none later.2 (ap (letters_of shown_in) (sym later.1) ∙ looked)) in
    subst (λ ls. map (λ l. l.text) ls ≡ filter is_base (map (λ l. l.text) ls) ++ map text.Shown look) (sym told)
    (by_death (λ ls. map (λ l. l.text) ls ≡ filter is_base (map (λ l. l.text) ls) ++ map text.Shown look)
    (lines_held h round.called e) (lines_held h v e) (list_any (destroys e) b.current) in_calls in_all) in
    subst (λ e. texts_to r e ≡ base_texts r e ++ map text.Shown (one_look (replica_of h s e) e rows)) number
    (of_created made.0 (ap (created_as s.book) number ∙ made.1) (subst (λ e. IsTrue (is_shown s.book e)) (sym number) seen))
