use Rattle.std.proofs.Common.{List, [], ◌∷◌, refl}
use Rattle.seam_node_steps.specs.Prelude.{Division, World}
use Rattle.seam_rule_rounds.specs.Prelude.{Header, Entry, Standing, replica_of}
use Rattle.seam_accept.specs.Batches.{batch_of}
use Rattle.seam_law_ghosts.specs.Prelude.{GoesThroughRound}
use Rattle.seam_law_book.specs.Prelude.{IsAccepted, HasEnded}
use Rattle.seam_law_transcript.specs.Phases.{dying}
use Rattle.seam_law_transcript.specs.Course.{GoesOn}
use Rattle.seam_law_transcript.specs.Steps.{AreAccepted, with_accepted, with_all_accepted, printed_by, left_by}
use Rattle.seam_law_transcript.proofs.worked_rounds.steps_play_a_legal_round.Goals as goal

goes_on : (h : Header) (tree : Division) (w : World)
    (one : (s : Standing) (x : Entry) → GoesOn h s tree w → IsAccepted h s.book x → GoesOn h (with_accepted s x) tree w)
    (xs : List Entry) (s : Standing) → GoesOn h s tree w → AreAccepted h s xs → GoesOn h (with_all_accepted s xs) tree w
goes_on h tree w one [] s goes are = goes
goes_on h tree w one (x ∷ xs) s goes are = goes_on h tree w one xs (with_accepted s x) (one s x goes are.0) are.1

pub returns-clause-lines : goal.returns-clause-lines
returns-clause-lines c h s tree w goes xs are =
    goes_on h tree w (λ t x. c.a_course_begins_and_goes_on.ensures.entry h t tree w x) xs s goes are

pub returns-clause-round : goal.returns-clause-round
returns-clause-round c h s tree w goes end none x made live plays =
    let calls = plays.calls in
    let given = c.a_round_may_be_run.ensures.given h s tree w goes end in
    let may =
    c.what_lines_bring_fits.ensures.reaped h s.book tree (replica_of h s) w goes.between.keeps given x.calls x.called calls.leads
    calls.quiet in
    let round : GoesThroughRound w (batch_of h s.book) x.left = record {
      called = x.called;
      call_events = x.calls;
      calls = calls.leads;
      calls_done = calls.quiet;
      gone = dying h s;
      may = may;
      reaped = x.reaped;
      reap_events = x.reaps;
      reaps = plays.reaps.leads;
      reaps_done = plays.reaps.quiet;
      look_events = x.looks;
      looks = plays.looks.leads;
    } in
    let ended : HasEnded h s.book w x.left round = record { gone = refl; quiet = plays.looks.quiet } in
    let legal =
    c.a_run_round_is_legal.ensures.kept h s tree w goes end x.left round ended made live plays.made_listed plays.live_listed none in
    record {
      legal = legal.0;
      one_real = c.each_entity_has_one_real_through_a_round.ensures h s tree w goes end;
      in_turn = c.each_part_executes_in_turn.ensures h s tree w goes end;
      sees_all = c.clients_see_all_within_their_radius.ensures h s tree w goes (printed_by h s x made live) (left_by h s x made live);
      goes_on = legal.1;
    }
