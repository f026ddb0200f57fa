-- The two worked rounds, event by event.
use Rattle.std.proofs.Common.{◌≡◌, [], ◌∷◌, refl, sym, subst}
use Rattle.seam_node_steps.specs.Prelude.{IsQuiet, node_has_work, node_steps, loaded, reaps_loaded, look_loaded, IsRow, World, empty_world}
use Rattle.seam_node_steps.specs.Prelude.{line}
use Rattle.seam_node_steps.proofs.Tables.{computing}
use Rattle.seam_node_steps.proofs.Quiet.{quiet_of}
use Rattle.seam_node_steps.proofs.Walks.{walked}
use Rattle.seam_net_runs.proofs.Runs.{leads_nowhere, leads_join}
use Rattle.seam_accept.specs.Batches.{batch_of}
use Rattle.seam_rule_rounds.specs.Prelude.{header}
use Rattle.seam_law_calls.specs.Prelude.{events_of, RunsTo}
use Rattle.seam_law_calls.proofs.ExampleMet.{row_leads}
use Rattle.seam_law_transcript.specs.Phases.{Ends}
use Rattle.seam_law_transcript.specs.Reading.{lines_told}
use Rattle.seam_law_transcript.specs.TwoRounds.{first, second, first_steps, second_steps, early_calls, later_calls, reaps, looks}
use Rattle.seam_law_transcript.specs.TwoRounds.{next_calls, next_looks, lines_2, last_lines_1, own_1, call_0, call_1, call_2, call_3}
use Rattle.seam_law_transcript.specs.TwoRounds.{call_4, call_5, call_6, call_7, call_8, call_9, call_10, call_11, call_12, call_13, call_14}
use Rattle.seam_law_transcript.specs.TwoRounds.{call_15, call_16, call_17, call_18, call_19, reap_0, reap_1, reap_2, reap_3, look_0, look_1}
use Rattle.seam_law_transcript.specs.TwoRounds.{look_2, look_3, look_4, look_5, look_6, next_0, next_1, next_2, next_3, next_4, next_look_0}
use Rattle.seam_law_transcript.specs.TwoRounds.{next_look_1, next_look_2, next_look_3, next_look_4, next_look_5}

-- ---- the first round

load : loaded empty_world (batch_of header first.book) ≡ call_0
unfolding call_0
load = simp computing

early : IsRow 1 1 call_0 early_calls
unfolding call_0 call_1 call_2 call_3 call_4 call_5 call_6 call_7 call_8 call_9 call_10
early = walked 1 1 call_0 early_calls (simp computing)

later : IsRow 1 1 call_10 later_calls
unfolding call_10 call_11 call_12 call_13 call_14 call_15 call_16 call_17 call_18 call_19
later = walked 1 1 call_10 later_calls (simp computing)

called_quiet : IsQuiet node_has_work call_19
unfolding call_19
called_quiet = quiet_of call_19 (simp computing)

reap_load : reaps_loaded call_19 (2 ∷ []) ≡ reap_0
unfolding call_19 reap_0
reap_load = refl

reaped : IsRow 1 1 reap_0 reaps
unfolding reap_0 reap_1 reap_2 reap_3
reaped = walked 1 1 reap_0 reaps (simp computing)

reaped_quiet : IsQuiet node_has_work reap_3
unfolding reap_3
reaped_quiet = quiet_of reap_3 (simp computing)

look_load : look_loaded reap_3 ≡ look_0
unfolding reap_3 look_0
look_load = refl

looked : IsRow 1 1 look_0 looks
unfolding look_0 look_1 look_2 look_3 look_4 look_5 look_6
looked = walked 1 1 look_0 looks (simp computing)

looked_quiet : IsQuiet node_has_work look_6
unfolding look_6
looked_quiet = quiet_of look_6 (simp computing)

pub calls_end : Ends (loaded empty_world (batch_of header first.book)) first_steps.calls first_steps.called
calls_end = record {
  leads = subst (λ (w : World). RunsTo w first_steps.calls call_19) (sym load)
      (leads_join node_has_work node_steps call_0 call_10 call_19 (events_of early_calls) (events_of later_calls)
      (row_leads 1 1 call_0 early_calls early) (row_leads 1 1 call_10 later_calls later));
  quiet = called_quiet;
}

pub reaps_end : Ends (reaps_loaded first_steps.called (2 ∷ [])) first_steps.reaps first_steps.reaped
reaps_end = record {
  leads = subst (λ (w : World). RunsTo w first_steps.reaps reap_3) (sym reap_load) (row_leads 1 1 reap_0 reaps reaped);
  quiet = reaped_quiet;
}

pub looks_end : Ends (look_loaded first_steps.reaped) first_steps.looks first_steps.left
looks_end = record {
  leads = subst (λ (w : World). RunsTo w first_steps.looks look_6) (sym look_load) (row_leads 1 1 look_0 looks looked);
  quiet = looked_quiet;
}

-- ---- the second round

next_load : loaded look_6 (batch_of header second.book) ≡ next_0
unfolding look_6 next_0
next_load = simp computing

next_called : IsRow 1 1 next_0 next_calls
unfolding next_0 next_1 next_2 next_3 next_4
next_called = walked 1 1 next_0 next_calls (simp computing)

next_quiet : IsQuiet node_has_work next_4
unfolding next_4
next_quiet = quiet_of next_4 (simp computing)

next_look_load : look_loaded next_4 ≡ next_look_0
unfolding next_4 next_look_0
next_look_load = refl

next_looked : IsRow 1 1 next_look_0 next_looks
unfolding next_look_0 next_look_1 next_look_2 next_look_3 next_look_4 next_look_5
next_looked = walked 1 1 next_look_0 next_looks (simp computing)

next_look_quiet : IsQuiet node_has_work next_look_5
unfolding next_look_5
next_look_quiet = quiet_of next_look_5 (simp computing)

pub next_calls_end : Ends (loaded look_6 (batch_of header second.book)) second_steps.calls second_steps.called
next_calls_end = record {
  leads = subst (λ (w : World). RunsTo w second_steps.calls next_4) (sym next_load) (row_leads 1 1 next_0 next_calls next_called);
  quiet = next_quiet;
}

pub next_reaps_end : Ends next_4 [] next_4
next_reaps_end = record { leads = leads_nowhere node_has_work node_steps next_4; quiet = next_quiet }

pub next_looks_end : Ends (look_loaded second_steps.reaped) second_steps.looks second_steps.left
next_looks_end = record {
  leads = subst (λ (w : World). RunsTo w second_steps.looks next_look_5) (sym next_look_load)
      (row_leads 1 1 next_look_0 next_looks next_looked);
  quiet = next_look_quiet;
}

-- ---- what clients are shown

pub shown : lines_told header first.book call_19 look_6 1 ≡ last_lines_1
unfolding look_6
shown = simp computing

pub last_shown : lines_told header first.book call_19 look_6 2 ≡ lines_2
unfolding call_19
last_shown = simp computing

pub next_shown : lines_told header second.book next_4 next_look_5 1 ≡ line 6 (own_1 3) ∷ []
unfolding next_look_5
next_shown = simp computing

pub no_more : lines_told header second.book next_4 next_look_5 2 ≡ []
unfolding next_4 next_look_5
no_more = simp computing
