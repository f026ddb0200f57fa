use Rattle.seam_law_transcript.proofs.Prelude.{◌≡◌, ℕ, true, [], length, Option, None, Some, refl, ap, ◌∙◌, is_some, WitnessView, loaded}
use Rattle.seam_law_transcript.proofs.Prelude.{created_as, replica_of, sent_by, framed, MayBeLoaded, next_to, base_calls_of, as_begun}
use Rattle.seam_law_transcript.proofs.Prelude.{IsUntouched, frame_of, may_play, batch_of, in_frame, settled_loaded, no_mail, one_holder}
use Rattle.seam_law_transcript.proofs.Prelude.{quiet_home, are_for_loaded, is_among, both_seen, may_begin, may_load}
use Rattle.seam_law_transcript.proofs.Who.{is_present, was_joined, unjoined_before, client_by}
use Rattle.seam_law_transcript.proofs.Numbered.{loaded_unshown}
use Rattle.seam_law_transcript.proofs.OneLook.{no_ticks}
use Rattle.seam_law_transcript.proofs.Tickless.{nothing_shown}
use Rattle.seam_law_transcript.proofs.legal_rounds.without_a_tick_calls_show_no_cell_parts.Goals as goal

witness_by : (o : Option WitnessView) → is_some o ≡ true → (x : WitnessView) × (o ≡ Some x)
witness_by None is = absurd (let z = is in cc)
witness_by (Some x) is = (x, refl)

pub returns : goal.returns
returns c h s tree w v p tickless x is shown =
    let b = s.book in
    let e = x.entity in
    let B = batch_of h b in
    let f = frame_of h tree in
    let g = framed f B in
    let play = may_play h s tree w p.beside in
    let round = p.round in
    let clients = replica_of h s in
    let R = c.lines_bring_what_fits.ensures.brings h b play.legal play.of_lines in
    let untouched : (d : ℕ) → created_as (as_begun b) d ≡ None → IsUntouched (as_begun b) d =
    λ d none. c.uncreated_numbers_are_untouched.ensures h (as_begun b) play.legal
    (c.lines_bring_what_fits.ensures.begun h b play.of_lines) d none in
    let may = c.what_lines_bring_fits.ensures.given h b tree clients w play in
    let loads : MayBeLoaded f w B = may_load play.keeps may in
    let called = c.calls_obey_the_laws.ensures.records f clients w play.keeps B may round.call_events round.called round.calls
    round.calls_done in
    let there = is_present b e x is shown in
    let l = c.what_lines_bring_fits.ensures.there h b tree clients w play e x there in
    let y = client_by l.base.proxy (l.client ∙ was_joined b e x is shown) in
    let start = loaded w B in
    let law = c.calls_obey_the_laws.ensures.laws f clients w play.keeps B may round.call_events round.called round.calls in
    let its = (c.calls_obey_the_laws.ensures.laws f clients w play.keeps B may [] start (record { each = tt; is_run = refl })).each e l.cell
    l.real l.here in
    let one = law.one_real e
    (one_holder (frame_of h B.tree) start e l.cell l.real (settled_loaded f w B (may_begin play.keeps may) e l.cell l.real l.here)
    (no_mail f w B (may_begin play.keeps may) e)) in
    let home = quiet_home g round.called called.records.reals e one in
    let z = witness_by l.real.witness
    (both_seen l.real.witness l.base.proxy l.base.version
    (are_for_loaded f w B (may_begin play.keeps may) play.keeps.parts e l.cell l.real l.here l.base l.base_here)
    ∙ ap is_some y.1) in
    let told = length (s.told e) in
    let new : is_among e B.clients ≡ true →
    told ≡ 0 = λ among. ap length (p.beside.between.untold e (unjoined_before h b R untouched e among)) in
    let none = loaded_unshown f w B loads e told (p.beside.between.numbers e) new l.base y.0 l.base_here y.1 in
    nothing_shown f w B loads (no_ticks h b.current tickless) e l.cell l.real l.here z.0 z.1 l.base y.0 l.base_here y.1 none its.served
    round.called round.call_events round.calls round.calls_done
    (λ update client most room looks.
    (c.each_base_call_waits_once.ensures.before_looks g e l.real.ty (λ n. next_to n l.base) (base_calls_of B e) update (sent_by l.real)
    start round.called round.call_events (its.base_calls l.base l.base_here) client most room looks round.calls).1)
    (λ looks most.
    (c.a_witness_tells_only_in_looks.ensures g e (sent_by l.real) start round.called round.call_events
    (in_frame f w B (may_begin play.keeps may)) looks most round.calls).1)
    (λ update client. c.a_clients_updates_come_in_order.ensures.all g e l.real.ty update round.called client round.calls_done)
    home.node home.real home.here
