use Rattle.seam_law_transcript.proofs.Prelude.{sym, subst, Standing, GoesOn, HasNextLine, as_it_is, one_read, one_accepted}
use Rattle.seam_law_transcript.proofs.whole_runs.a_round_may_break_off.Goals as goal

pub returns : goal.returns
returns c h t tree w goes s next end =
    let so : GoesOn h s tree w = goes_on next in
    (c.each_entity_has_one_real_through_a_round.ensures h s tree w so end, c.each_part_executes_in_turn.ensures h s tree w so end)
  where
    goes_on : HasNextLine h t s → GoesOn h s tree w
    goes_on (as_it_is is) = subst (λ (x : Standing). GoesOn h x tree w) (sym is) goes
    goes_on (one_read is) =
        subst (λ (x : Standing). GoesOn h x tree w) (sym is) (c.a_course_begins_and_goes_on.ensures.line h t tree w goes)
    goes_on (one_accepted x taken is) =
        subst (λ (y : Standing). GoesOn h y tree w) (sym is) (c.a_course_begins_and_goes_on.ensures.entry h t tree w x goes taken)
