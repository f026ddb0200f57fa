use Rattle.seam_law_bounds.proofs.Prelude.{framed, MayBeLoaded, reaped_between, reaped_parts, reaped_small, reaped_copies}
use Rattle.seam_law_bounds.proofs.phases.a_round_keeps_the_records.Goals as goal
use Rattle.seam_law_all.specs.Prelude.{may_begin, may_load}

pub returns-clause-opened : goal.returns-clause-opened
returns-clause-opened c = λ defs settings frame some reach clients.
    let bounds = c.a_round_keeps_what_bounds_it.ensures.opened defs settings frame some in (
      c.an_opened_world_keeps_the_records.ensures defs settings frame some reach clients,
      record { nothing = bounds.0; sees = bounds.1 },
    )

pub returns-clause-round : goal.returns-clause-round
returns-clause-round c = λ f clients w b kept bounds given v round quiet.
    let g = framed f b in
    let may : MayBeLoaded f w b =
    may_load kept given in
    let between = reaped_between f w b may kept.copies v round in
    let parts = reaped_parts f w b may kept.copies v round in
    let small = reaped_small f w b may kept.copies v round in
    let copies = reaped_copies f w b may kept.copies v round in (
      record {
        reals = c.a_round_goes_from_record_to_record.ensures.looks g round.reaped between round.look_events v round.looks quiet;
        parts =
            c.base_parts_go_from_record_to_record.ensures.looks g round.reaped between parts small round.look_events v round.looks quiet;
        places = c.a_round_keeps_the_record_of_places.ensures.round f w b (may_begin kept given) v round;
        copies = c.copies_go_from_record_to_record.ensures.looks g round.reaped between copies round.look_events v round.looks quiet;
        shown = c.clients_go_from_record_to_record.ensures.round f w b may kept.copies kept.reach clients kept.shown v round quiet;
        reach = kept.reach;
      },
      record {
        nothing = c.a_round_keeps_what_bounds_it.ensures.nothing f w b may kept.copies bounds.nothing v round quiet;
        sees = c.a_round_keeps_what_bounds_it.ensures.views f w b may kept.copies v round quiet;
      },
    )
