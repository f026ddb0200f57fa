use Rattle.std.proofs.Common.{refl, arith}
use Rattle.seam_node_steps.specs.Prelude.{two_cells, empty_world, standard, AreLegal}
use Rattle.seam_defs.proofs.WellFormed.{builtin-are-defs}
use Rattle.seam_rule_rounds.specs.Prelude.{header, one_cell}
use Rattle.seam_law_transcript.specs.Counts.{MayEnd}
use Rattle.seam_law_transcript.specs.Steps.{PlayedBy, GoesRight}
use Rattle.seam_law_transcript.specs.TwoRounds.{begun, first, first_entries, first_steps, between, second, second_entries, second_steps}
use Rattle.seam_law_transcript.specs.TwoRounds.{created_both, alive, look_6}
use Rattle.seam_law_transcript.proofs.TwoRoundsLines.{first_accepted, second_accepted, created_listed, alive_listed}
use Rattle.seam_law_transcript.proofs.TwoRounds as rounds
use Rattle.seam_law_transcript.proofs.worked_rounds.two_rounds_with_a_tick_and_a_death_go_right.Goals as goal

legal : AreLegal standard
legal = record {
  in_range = record {
    some_size = omega arith;
    size = omega arith;
    view_radius = omega arith;
    view_hysteresis = omega arith;
    offload_hysteresis = omega arith;
    ghost_distance = omega arith;
    ghost_hysteresis = omega arith;
    balance_shift = omega arith;
    some_bases = omega arith;
    bases = omega arith;
  };
  reach = omega arith;
}

first_may_end : MayEnd first
first_may_end = record { counted = omega arith; lines = omega arith; all = omega arith }

second_may_end : MayEnd second
second_may_end = record { counted = omega arith; lines = omega arith; all = omega arith }

first_played : PlayedBy header first empty_world first_steps created_both alive
first_played = record {
  calls = rounds.calls_end;
  reaps = rounds.reaps_end;
  looks = rounds.looks_end;
  made_listed = created_listed;
  live_listed = alive_listed;
}

second_played : PlayedBy header second look_6 second_steps created_both alive
second_played = record {
  calls = rounds.next_calls_end;
  reaps = rounds.next_reaps_end;
  looks = rounds.next_looks_end;
  made_listed = created_listed;
  live_listed = alive_listed;
}

pub returns-clause-lines : goal.returns-clause-lines
returns-clause-lines c = first_accepted

pub returns-clause-ticks : goal.returns-clause-ticks
returns-clause-ticks c = refl

pub returns-clause-goes : goal.returns-clause-goes
returns-clause-goes c =
    c.steps_play_a_legal_round.ensures.lines header begun (one_cell 10000) empty_world
    (c.a_course_begins_and_goes_on.ensures.opened header 1 legal builtin-are-defs) first_entries first_accepted

pub returns-clause-ends : goal.returns-clause-ends
returns-clause-ends c = first_may_end

pub returns-clause-plays : goal.returns-clause-plays
returns-clause-plays c = first_played

pub returns-clause-right : goal.returns-clause-right
returns-clause-right c =
    c.steps_play_a_legal_round.ensures.round header first (one_cell 10000) empty_world (returns-clause-goes c) first_may_end refl
    first_steps created_both alive first_played

pub returns-clause-next_lines : goal.returns-clause-next_lines
returns-clause-next_lines c = second_accepted

pub returns-clause-next_goes : goal.returns-clause-next_goes
returns-clause-next_goes c =
    let right : GoesRight header first empty_world first_steps created_both alive = returns-clause-right c in
    c.steps_play_a_legal_round.ensures.lines header between two_cells look_6 right.goes_on second_entries second_accepted

pub returns-clause-next_ends : goal.returns-clause-next_ends
returns-clause-next_ends c = second_may_end

pub returns-clause-next_plays : goal.returns-clause-next_plays
returns-clause-next_plays c = second_played

pub returns-clause-next_right : goal.returns-clause-next_right
returns-clause-next_right c =
    c.steps_play_a_legal_round.ensures.round header second two_cells look_6 (returns-clause-next_goes c) second_may_end refl second_steps
    created_both alive second_played

pub returns-clause-shown : goal.returns-clause-shown
returns-clause-shown c = rounds.shown

pub returns-clause-last_shown : goal.returns-clause-last_shown
returns-clause-last_shown c = rounds.last_shown

pub returns-clause-next_shown : goal.returns-clause-next_shown
returns-clause-next_shown c = rounds.next_shown

pub returns-clause-no_more : goal.returns-clause-no_more
returns-clause-no_more c = rounds.no_more

pub returns-clause-not_shown : goal.returns-clause-not_shown
returns-clause-not_shown c = refl
