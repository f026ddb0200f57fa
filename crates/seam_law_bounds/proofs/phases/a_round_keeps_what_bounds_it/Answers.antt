use Rattle.seam_law_bounds.proofs.Prelude.{framed, called_between, reaped_between, reaped_parts, reaped_small, reaped_copies, reaped_room}
use Rattle.seam_law_clients.proofs.Room.{have_room}
use Rattle.seam_law_bounds.proofs.Seen.{looks_see}
use Rattle.seam_law_bounds.proofs.phases.a_round_keeps_what_bounds_it.Goals as goal

pub returns-clause-opened : goal.returns-clause-opened
returns-clause-opened c = λ defs settings frame some. (
  c.nothing_held_goes_from_record_to_record.ensures.opened defs settings frame some,
  c.what_is_seen_is_held.ensures.opened defs settings frame some,
)

pub returns-clause-looks : goal.returns-clause-looks
returns-clause-looks c = λ f u between parts small copies vs v run quiet.
    looks_see f u between parts copies (have_room f u parts small) c.others_see_the_ghost.ensures.by_ghost vs v run quiet

pub returns-clause-nothing : goal.returns-clause-nothing
returns-clause-nothing c = λ f w b may copies none v round quiet.
    let g = framed f b in
    let called =
    c.nothing_held_goes_from_record_to_record.ensures.calls f w b may none round.called round.call_events round.calls round.calls_done in
    let reaped =
    c.reaps_end.ensures.nothing g round.called (called_between f w b may copies v round) called round.gone round.may round.reap_events
    round.reaped round.reaps in
    c.nothing_held_goes_from_record_to_record.ensures.looks g round.reaped (reaped_between f w b may copies v round)
    (reaped_parts f w b may copies v round) (reaped_small f w b may copies v round) reaped round.look_events v round.looks quiet

pub returns-clause-views : goal.returns-clause-views
returns-clause-views c = λ f w b may copies v round quiet.
    looks_see (framed f b) round.reaped (reaped_between f w b may copies v round) (reaped_parts f w b may copies v round)
    (reaped_copies f w b may copies v round) (reaped_room f w b may copies v round) c.others_see_the_ghost.ensures.by_ghost
    round.look_events v round.looks quiet
