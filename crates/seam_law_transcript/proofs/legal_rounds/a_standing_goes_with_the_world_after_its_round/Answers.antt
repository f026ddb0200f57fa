use Rattle.seam_law_transcript.proofs.Prelude.{◌≡◌, ◌+◌, Bool, true, false, ◌++◌, length, Option, None, Some, refl, sym, ap, ◌∙◌, subst}
use Rattle.seam_law_transcript.proofs.Prelude.{length-append, append-nil, is_some, not, filter, ◌&&◌, list_any, Create, is_from, PartView}
use Rattle.seam_law_transcript.proofs.Prelude.{ProxyView, entries, creates_of, calls_of, created_as, live_as, joins, destroys, was_dead}
use Rattle.seam_law_transcript.proofs.Prelude.{tree_of, with_round_ended, with_tree, IsFull, told_in, replica_of, entity_flow, framed}
use Rattle.seam_law_transcript.proofs.Prelude.{clients_loaded, clients_shown, frame_of, base_node, done_in, with_done, AreInPlace, may_play}
use Rattle.seam_law_transcript.proofs.Prelude.{data_of, place_read, live_is_created, found_entity, batch_of, any_split, alive, neither}
use Rattle.seam_law_transcript.proofs.Prelude.{undestroyed, live_ended, client_of, both_seen}
use Rattle.seam_law_transcript.proofs.Held.{place_is}
use Rattle.seam_law_transcript.proofs.Replicas.{is_shown_by}
use Rattle.seam_law_transcript.proofs.legal_rounds.a_standing_goes_with_the_world_after_its_round.Goals as goal

-- one that never had a client has none in the round
unseen : (o : Option Create) (joined dead : Bool) → joined ≡ false → ((is_some o && joined) && not dead) ≡ false
unseen None joined dead is = refl
unseen (Some c) true dead is = absurd (let z = is in cc)
unseen (Some c) false dead is = refl

pub returns-clause-ended : goal.returns-clause-ended
returns-clause-ended c h s tree w v p bounds =
    let b = s.book in
    let B = batch_of h b in
    let f = frame_of h tree in
    let g = framed f B in
    let play = may_play h s tree w p.beside in
    let round = p.round in
    let r = data_of h s tree w v p bounds in
    let clients = replica_of h s in
    let may = c.what_lines_bring_fits.ensures.given h b tree clients w play in
    let mid = clients_shown g (clients_loaded f B clients) round.called in
    let called = c.calls_obey_the_laws.ensures.records f clients w play.keeps B may round.call_events round.called round.calls
    round.calls_done in
    let reaped = c.reaps_obey_the_laws.ensures.records g mid round.called called round.gone round.may round.reap_events round.reaped
    round.reaps round.reaps_done in
    let last = c.looks_obey_the_laws.ensures.records g mid round.reaped reaped round.look_events v round.looks p.ended.quiet in
    let on = c.a_book_goes_with_the_world_after_its_round.ensures.round h b tree clients w play v round p.ended in
    let full = c.each_part_executed_what_was_accepted.ensures.full h b tree clients w play round.call_events round.called round.calls
    round.calls_done s.orders p.beside.between.before.full in
    let there : AreInPlace (place_read v) v = λ e k q at. place_is g v last.reals e k q at in
    -- one that lives and has a client
    let last_of : (x : Create) → live_as b x.entity ≡ Some x → list_any (joins x.entity) (entries b) ≡ true →
    (q : PartView) (y : ProxyView) →
    ((entity_flow x.entity v).slot (base_node h x.entity)).base.part ≡ Some q → q.proxy ≡ Some y →
    y.last ≡ length (s.told x.entity ++ told_in r x.entity) = λ x lives joined q y at has.
    let e = x.entity in
    let made = live_is_created b e x lives in
    let not_before = (neither (list_any (destroys e) b.past) (list_any (destroys e) b.current)
    (sym (any_split b e (destroys e)) ∙ alive b e x lives)).0 in
    let shown = is_shown_by b e x made joined not_before in
    let next = c.clients_are_shown_base_parts.ensures h s tree w v p bounds (with_round_ended b) x made shown in
    next.last (undestroyed b e x lives) q y at has
    ∙ ap (λ ls. length (s.told e) + length ls) (sym (c.client_lines_are_gathered.ensures.told h s tree w v p bounds x made shown))
    ∙ sym (length-append (s.told e) (told_in r e)) in
    record {
      keeps = c.clients_show_what_they_were_told.ensures.records h s tree w v p bounds (with_round_ended b);
      goes = on;
      before = record {
        full = λ part e. subst (λ cs. IsFull (λ sender. filter (is_from part e sender) (calls_of cs))
            (with_done s.orders (done_in h round.called) part e))
            (sym (append-nil (entries b))) (full part e);
        reals = c.reals_are_those_of_the_flat_table.ensures.ended h b tree clients w play s.orders p.beside.between.before v round;
        parts = c.base_parts_are_those_of_the_flat_table.ensures.ended h b tree clients w play s.orders p.beside.between.before v round
            p.ended;
      };
      places = there;
      numbers = λ e q y at has.
          let l = on.parts e (base_node h e) q at in
          let lives = sym (live_ended b e) ∙ l.1 in
          let held = on.live e l.0 l.1 in
          let same : held.base ≡ q = (let z = sym held.base_here ∙ at in cc) in
          let joined = sym (client_of b e l.0 lives) ∙ sym held.client
          ∙ both_seen held.real.witness held.base.proxy held.base.version
          (last.parts.clients e held.cell held.real held.here held.base held.base_here)
          ∙ ap (λ (z : PartView). is_some z.proxy) same ∙ ap is_some has in
          let number = found_entity (creates_of (entries b)) e l.0 (live_is_created b e l.0 lives) in
          subst (λ d. (q : PartView) (y : ProxyView) → ((entity_flow d v).slot (base_node h d)).base.part ≡ Some q → q.proxy ≡ Some y →
          y.last ≡ length (s.told d ++ told_in r d)) number
          (last_of l.0 (ap (live_as b) number ∙ lives) (ap (λ d. list_any (joins d) (entries b)) number ∙ joined)) q y at has;
      untold = λ e never.
          let two = neither (list_any (joins e) b.past) (list_any (joins e) b.current) (sym (any_split b e (joins e)) ∙ never) in
          let none = c.client_lines_are_gathered.ensures.none h s tree w v p bounds e
          (unseen (created_as b e) (list_any (joins e) (entries b)) (was_dead b e) never) in
          (λ i. p.beside.between.untold e two.0 i ++ none i);
    }

pub returns-clause-balanced : goal.returns-clause-balanced
returns-clause-balanced c h s tree w v p bounds u may =
    let b = s.book in
    let its = returns-clause-ended c h s tree w v p bounds in
    record {
      keeps = c.clients_show_what_they_were_told.ensures.records h s tree w v p bounds (with_tree (with_round_ended b) u);
      goes = c.a_book_goes_with_the_world_after_its_round.ensures.balanced h b (tree_of b) u v its.goes may;
      before = record { full = its.before.full; reals = its.before.reals; parts = its.before.parts };
      places = its.places;
      numbers = its.numbers;
      untold = its.untold;
    }
