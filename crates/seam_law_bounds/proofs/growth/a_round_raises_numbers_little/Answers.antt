use Rattle.seam_law_bounds.proofs.Prelude.{[], length, ap, ◌∙◌, link, loaded, World, node_steps, node_has_work, framed, LooksAmong}
use Rattle.seam_law_bounds.proofs.Prelude.{LooksFit, quiet_links, leads_nowhere, in_frame, loaded_is, called_between, reaped_between}
use Rattle.seam_law_bounds.proofs.Prelude.{reaped_room}
use Rattle.seam_law_bounds.proofs.Naming.{among_these}
use Rattle.seam_law_bounds.proofs.RoundGrowth.{numbers_most, told_end}
use Rattle.seam_law_bounds.proofs.growth.a_round_raises_numbers_little.Goals as goal

pub returns-clause-reals : goal.returns-clause-reals
returns-clause-reals c f w b may copies v round n low =
    numbers_most f w b may copies v round
    (λ e k q at. c.the_last_phases_leave_places.ensures.looks (framed f b) round.reaped (reaped_between f w b may copies v round)
    round.look_events v round.looks e k q at) n low

pub returns-clause-told : goal.returns-clause-told
returns-clause-told c f w b may copies none sees us named v round quiet n low e k q at =
    let g = framed f b in
    let first = among_these f w b may copies
    (c.what_is_seen_is_held.ensures.calls f w b may copies sees (loaded w b) []
    (leads_nowhere node_has_work node_steps (loaded w b))) us named in
    let between = called_between f w b may copies v round in
    let few : (u : World) → LooksAmong us (λ k. us) u → LooksFit (record { bases = 0; lines = length us; witnesses = λ k. length us }) u =
    λ u among. c.looks_are_about_what_there_is.ensures.few us (λ j. us) 0 u among in
    let always = c.looks_are_about_what_there_is.ensures.kept us us g (loaded w b) (in_frame f w b may.begin)
    (λ x y. ap (λ z. link z.rows x y) (loaded_is w b)
    ∙ quiet_links node_has_work w may.begin.between.nodes.sound.square may.begin.between.quiet x y) first in
    let called = c.nothing_held_goes_from_record_to_record.ensures.calls f w b may none round.called round.call_events round.calls
    round.calls_done in
    let reaped = c.looks_are_about_what_there_is.ensures.reaps g round.called between called round.gone round.may us us
    (always round.called round.call_events round.calls) round.reaped round.reap_events round.reaps in
    told_end f w b may copies v round us us few always reaped n low e
    (λ d j r there. c.the_last_phases_leave_places.ensures.looks g round.reaped (reaped_between f w b may copies v round)
    round.look_events v round.looks d j r there)
    (λ d j r there cell node. c.each_witness_looks_once.ensures g round.reaped (reaped_between f w b may copies v round)
    (reaped_room f w b may copies v round) round.look_events v round.looks quiet d j r there cell node) k q at
