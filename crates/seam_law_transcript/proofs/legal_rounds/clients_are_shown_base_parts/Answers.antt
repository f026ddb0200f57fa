use Rattle.seam_law_transcript.proofs.Prelude.{◌≡◌, ℕ, ◌+◌, true, false, [], ◌++◌, map, length, None, Some, sym, ap, ◌∙◌, subst}
use Rattle.seam_law_transcript.proofs.Prelude.{if◌then◌else◌, list_any, PartView, ProxyView, loaded, created_as, destroys, is_new_client}
use Rattle.seam_law_transcript.proofs.Prelude.{base_shown, base_versions, replica_of, here_at, entity_flow, framed, MayBeLoaded, base_lines}
use Rattle.seam_law_transcript.proofs.Prelude.{first_lines, lines_after, clients_loaded, clients_shown, as_begun, IsUntouched, frame_of}
use Rattle.seam_law_transcript.proofs.Prelude.{base_node, done_by_part, done_in, part_is, may_play, standing_of, lines_told, batch_of}
use Rattle.seam_law_transcript.proofs.Prelude.{settled_loaded, no_mail, one_holder, quiet_home, is_among, among_is, live_ended}
use Rattle.seam_law_transcript.proofs.Prelude.{among_joined, may_begin, may_load}
use Rattle.seam_defs.specs.declared.flags.Part.TheVariants as part
use Rattle.seam_law_transcript.proofs.LinesHeld.{lines_held, told_held}
use Rattle.seam_law_transcript.proofs.Who.{is_present, was_joined, lives_on, unjoined_before, client_by}
use Rattle.seam_law_transcript.proofs.BaseVersions.{texts_are}
use Rattle.seam_law_transcript.proofs.Told.{IsShown, by_death, base_texts_are, called_shown, ended_shown, ended_last}
use Rattle.seam_law_transcript.proofs.legal_rounds.clients_are_shown_base_parts.Goals as goal

pub returns : goal.returns
returns c h s tree w v p bounds next x is shown =
    let b = s.book in
    let e = x.entity in
    let B = batch_of h b in
    let f = frame_of h tree in
    let g = framed f B in
    let play = may_play h s tree w p.beside in
    let round = p.round in
    let t = standing_of h s tree w v p bounds next in
    let clients = replica_of h s in
    let R = c.lines_bring_what_fits.ensures.brings h b play.legal play.of_lines in
    let untouched : (d : ℕ) → created_as (as_begun b) d ≡ None → IsUntouched (as_begun b) d =
    λ d none. c.uncreated_numbers_are_untouched.ensures h (as_begun b) play.legal
    (c.lines_bring_what_fits.ensures.begun h b play.of_lines) d none in
    let may = c.what_lines_bring_fits.ensures.given h b tree clients w play in
    let loads : MayBeLoaded f w B = may_load play.keeps may in
    let mid = clients_shown g (clients_loaded f B clients) round.called in
    let laws = c.calls_obey_the_laws.ensures.laws f clients w play.keeps B may round.call_events round.called round.calls in
    let called = c.calls_obey_the_laws.ensures.records f clients w play.keeps B may round.call_events round.called round.calls
    round.calls_done in
    let reaped = c.reaps_obey_the_laws.ensures.records g mid round.called called round.gone round.may round.reap_events round.reaped
    round.reaps round.reaps_done in
    let on = c.a_book_goes_with_the_world_after_its_round.ensures.round h b tree clients w play v round p.ended in
    -- as the batch is loaded
    let there = is_present b e x is shown in
    let l = c.what_lines_bring_fits.ensures.there h b tree clients w play e x there in
    let y = client_by l.base.proxy (l.client ∙ was_joined b e x is shown) in
    let here = here_at f (base_node h e) in
    let first = c.the_base_part_is_shown_at_each_change.ensures.load f w B loads e l.base y.0 l.base_here y.1 in
    let shows = c.the_base_part_is_shown_at_each_change.ensures.round f w B loads e l.cell l.real l.here round.called round.call_events
    round.calls l.base y.0 l.base_here y.1 in
    let begins = c.base_parts_are_those_of_the_flat_table.ensures.loaded h b tree clients w play s.orders p.beside.between.before e l.base x
    l.base_here there in
    -- where its calls have ended
    let one = laws.one_real e
    (one_holder (frame_of h B.tree) (loaded w B) e l.cell l.real (settled_loaded f w B (may_begin play.keeps may) e l.cell l.real l.here)
    (no_mail f w B (may_begin play.keeps may) e)) in
    let home = quiet_home g round.called called.records.reals e one in
    let done = done_in h round.called part.Base e in
    let deeds = c.each_part_executed_what_was_accepted.ensures.on h b tree clients w play round.call_events round.called round.calls
    round.calls_done e home.node home.real home.here x there part.Base in
    let done_is : done ≡ shows.calls =
    ap done_by_part (part_is e round.called (base_node h e) ∙ shows.is) ∙ shows.done ∙ ap (λ d. d ++ shows.calls) begins.idle in
    let new : base_lines y.0.lines ≡ (if is_new_client b e then first_lines here l.base else []) =
    first ∙ ap (λ n. if n then first_lines here l.base else []) (among_is e B.clients ∙ among_joined e b.current) in
    let texts = base_lines y.0.lines ++ lines_after here l.base.ty l.base.state l.base.version shows.calls in
    let rules : texts ≡ map (base_shown h t x) (base_versions h s t x) =
    (λ i. new i ++ lines_after here l.base.ty l.base.state l.base.version (sym done_is i))
    ∙ texts_are h tree (base_node h e) x l.base (s.orders part.Base e) done begins deeds (is_new_client b e) in
    let told = length (s.told e) in
    let none : is_among e B.clients ≡ true →
    told ≡ 0 = λ among. ap length (p.beside.between.untold e (unjoined_before h b R untouched e among)) in
    let in_calls : IsShown told (lines_held h round.called e) texts =
    called_shown f w B loads e told (p.beside.between.numbers e) none l.base y.0 l.base_here y.1 round.called shows in
    let lived : list_any (destroys e) b.current ≡ false → IsShown told (lines_held h v e) texts
    × ((q : PartView) (z : ProxyView) → ((entity_flow e v).slot (base_node h e)).base.part ≡ Some q → q.proxy ≡ Some z →
    z.last ≡ told + length (lines_held h v e)) = λ not.
    let held = on.live e x (live_ended b e ∙ lives_on b e x is shown not) in
    let was = c.the_last_phases_leave_places.ensures.looks g round.reaped reaped.records.reals round.look_events v round.looks e held.cell
    held.real held.here in
    let before = c.the_last_phases_leave_places.ensures.reaps g round.called called.records.reals round.gone round.may round.reap_events
    round.reaped round.reaps e held.cell was.real was.here in
    let left = reaped.records.parts.parts e held.cell was.real was.here in
    let same = (c.reaps_obey_the_laws.ensures.laws g mid round.called called round.gone round.may round.reap_events round.reaped
    round.reaps).parts e held.cell before.real before.here (base_node h e) left.part left.here in (
      ended_shown f w B loads e told (p.beside.between.numbers e) none l.base y.0 l.base_here y.1 round.called shows round.reaped v
          reaped.records.reals round.look_events round.looks was.real.ty left same,
      ended_last f w B loads e told (p.beside.between.numbers e) none l.base y.0 l.base_here y.1 round.called shows round.reaped v
          reaped.records.reals round.look_events round.looks was.real.ty left same,
    ) in
    let in_all : list_any (destroys e) b.current ≡ false → IsShown told (lines_held h v e) texts = λ not. (lived not).0 in
    let so = subst (λ ls. IsShown told ls texts) (sym (told_held h b round.called v e))
    (by_death (λ ls. IsShown told ls texts) (lines_held h round.called e) (lines_held h v e) (list_any (destroys e) b.current)
    (λ now. in_calls) in_all) in
    record {
      numbers = so.numbers;
      bases = base_texts_are (lines_told h b round.called v e) ∙ so.bases ∙ rules;
      last = λ not q z at has. (lived not).1 q z at has
          ∙ ap (λ n. told + length (if n then lines_held h round.called e else lines_held h v e)) (sym not)
          ∙ ap (λ ls. told + length ls) (sym (told_held h b round.called v e));
    }
