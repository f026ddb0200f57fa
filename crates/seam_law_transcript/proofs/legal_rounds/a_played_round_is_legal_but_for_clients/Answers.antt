use Rattle.seam_law_transcript.proofs.Prelude.{◌≡◌, [], ◌∷◌, Some, refl, ap, ◌∙◌, Contains, Create, live_as, tree_of, with_round_ended}
use Rattle.seam_law_transcript.proofs.Prelude.{replica_of, HasPlace, home_line, base_line, ghost_lines, framed, clients_loaded}
use Rattle.seam_law_transcript.proofs.Prelude.{clients_shown, frame_of, base_node, AreInPlace, ghosts_read, part_is, may_play, standing_of}
use Rattle.seam_law_transcript.proofs.Prelude.{homes_read, base_if, bases_read, place_read, batch_of, live_ended}
use Rattle.seam_defs.specs.declared.flags.Part.TheVariants as part
use Rattle.seam_law_transcript.proofs.Held.{one_of_each, same_of_each, all_of_each, home_is, place_is}
use Rattle.seam_law_transcript.proofs.legal_rounds.a_played_round_is_legal_but_for_clients.Goals as goal

pub returns : goal.returns
returns c h s tree w v p bounds next =
    let b = s.book in
    let B = batch_of h b in
    let f = frame_of h tree in
    let g = framed f B in
    let play = may_play h s tree w p.beside in
    let round = p.round in
    let t = standing_of h s tree w v p bounds next in
    let clients = replica_of h s in
    let may = c.what_lines_bring_fits.ensures.given h b tree clients w play in
    let then = clients_shown g (clients_loaded f B clients) round.called in
    let called = c.calls_obey_the_laws.ensures.records f clients w play.keeps B may round.call_events round.called round.calls
    round.calls_done in
    let reaped = c.reaps_obey_the_laws.ensures.records g then round.called called round.gone round.may round.reap_events round.reaped
    round.reaps round.reaps_done in
    let last = c.looks_obey_the_laws.ensures.records g then round.reaped reaped round.look_events v round.looks p.ended.quiet in
    let on = c.a_book_goes_with_the_world_after_its_round.ensures.round h b tree clients w play v round p.ended in
    let full = c.each_part_executed_what_was_accepted.ensures.full h b tree clients w play round.call_events round.called round.calls
    round.calls_done s.orders p.beside.between.before.full in
    let rows = c.reals_are_those_of_the_flat_table.ensures.ended h b tree clients w play s.orders p.beside.between.before v round in
    let parts = c.base_parts_are_those_of_the_flat_table.ensures.ended h b tree clients w play s.orders p.beside.between.before v round
    p.ended in
    let there : AreInPlace (place_read v) v = λ e k q at. place_is g v last.reals e k q at in
    let lives : (x : Create) → Contains p.live x → live_as (with_round_ended b) x.entity ≡ Some x =
    λ x has. live_ended b x.entity ∙ (p.live_listed.exact x).0 has in
    record {
      did = c.each_part_executed_what_was_accepted.ensures.lines h b round.called s.orders full p.made p.made_listed part.Cell;
      dob = c.each_part_executed_what_was_accepted.ensures.lines h b round.called s.orders full p.made p.made_listed part.Base;
      places = all_of_each (HasPlace h s t) p.live
          (λ x has.
          let held = on.live x.entity x (lives x has) in
          c.places_are_those_that_the_rules_allow.ensures h s t tree clients w play p.beside.between.before p.beside.between.places v round
          refl there x
          held.cell held.real held.here ((p.live_listed.exact x).0 has));
      homes = one_of_each (λ x. homes_read v x.entity) (home_line h t) p.live
          (λ x has.
          let held = on.live x.entity x (lives x has) in
          home_is g v last.reals x.entity held.cell held.real held.here
          ∙ ap (λ l. l ∷ [])
          (c.home_lines_are_those_of_the_rules.ensures h (with_round_ended b) (tree_of b) v t on rows there x held.cell held.real held.here
          (lives x has) last.reals));
      bases = one_of_each (λ x. bases_read h v x.entity) (base_line h t) p.live
          (λ x has.
          let held = on.live x.entity x (lives x has) in
          ap (base_if x.entity) (part_is x.entity v (base_node h x.entity) ∙ held.base_here)
          ∙ ap (λ l. l ∷ [])
          (c.base_lines_are_those_of_the_rules.ensures h (with_round_ended b) (tree_of b) v t on parts x held.base held.base_here
          (lives x has)));
      ghosts = same_of_each (λ x. ghosts_read x.entity v) (ghost_lines h (tree_of b) t) p.live
          (λ x has.
          let held = on.live x.entity x (lives x has) in
          c.ghost_lines_are_those_of_the_rules.ensures h (with_round_ended b) (tree_of b) v t rows there x held.cell held.real held.here
          (lives x has) last.reals last.copies);
    }
