use Rattle.seam_law_ghosts.proofs.ExampleCopies.{between, opened_fits, run, ends_between, ends_copied, has_copy, reapable}
use Rattle.seam_law_ghosts.proofs.newest.a_worked_round_keeps_the_records.Goals as goal

pub returns-clause-between : goal.returns-clause-between
returns-clause-between c = between

pub returns-clause-fits : goal.returns-clause-fits
returns-clause-fits c =
    let row = c.a_late_ghost_message_is_ignored.ensures in
    opened_fits row.load row.events row.quiet

pub returns-clause-run : goal.returns-clause-run
returns-clause-run c =
    let row = c.a_late_ghost_message_is_ignored.ensures in
    run row.load row.events row.quiet

pub returns-clause-quiet : goal.returns-clause-quiet
returns-clause-quiet c = c.a_late_ghost_message_is_ignored.ensures.quiet

pub returns-clause-ends : goal.returns-clause-ends
returns-clause-ends c =
    let row = c.a_late_ghost_message_is_ignored.ensures in
    ends_between row.load row.events row.quiet

pub returns-clause-copies : goal.returns-clause-copies
returns-clause-copies c =
    let row = c.a_late_ghost_message_is_ignored.ensures in
    ends_copied row.load row.events row.quiet

pub returns-clause-present : goal.returns-clause-present
returns-clause-present c = has_copy

pub returns-clause-reapable : goal.returns-clause-reapable
returns-clause-reapable c = reapable
