use Rattle.seam_law_bounds.proofs.Prelude.{length, framed, called_between, reaped_between, reaped_parts, reaped_small}
use Rattle.seam_law_bounds.proofs.Bounds.{seers, among_each, names, watchers, called_among, looks_bounded}
use Rattle.seam_law_bounds.proofs.phases.each_phase_of_a_round_ends.Goals as goal

pub returns-clause-calls : goal.returns-clause-calls
returns-clause-calls c = λ f w b may copies none sees v es run. c.a_round_ends.ensures.records f w b may none copies sees v es run

pub returns-clause-reaps : goal.returns-clause-reaps
returns-clause-reaps c = λ f w b may copies none v round.
    let called =
    c.nothing_held_goes_from_record_to_record.ensures.calls f w b may none round.called round.call_events round.calls round.calls_done in
    c.reaps_end.ensures.bound (framed f b) round.called (called_between f w b may copies v round) called round.gone round.may
    round.reap_events round.reaped round.reaps

pub returns-clause-looks : goal.returns-clause-looks
returns-clause-looks c = λ f w b may copies none sees v round.
    let g = framed f b in
    let between = called_between f w b may copies v round in
    let called =
    c.nothing_held_goes_from_record_to_record.ensures.calls f w b may none round.called round.call_events round.calls round.calls_done in
    let reaped =
    c.reaps_end.ensures.nothing g round.called between called round.gone round.may round.reap_events round.reaped round.reaps in
    let all = watchers f w b may copies sees v round in
    let who = names f w b may copies sees v round in
    let among =
    c.looks_are_about_what_there_is.ensures.reaps g round.called between called round.gone round.may who all
    (called_among f w b may copies sees v round) round.reaped round.reap_events round.reaps in
    looks_bounded f w b may copies sees v round (length round.look_events)
    (c.looks_end.ensures.bound g round.reaped (reaped_between f w b may copies v round) (reaped_parts f w b may copies v round)
    (reaped_small f w b may copies v round) reaped who (seers round.reaped) (among_each who all round.reaped among) round.look_events v
    round.looks)
