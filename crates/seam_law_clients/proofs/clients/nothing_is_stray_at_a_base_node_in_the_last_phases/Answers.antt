use Rattle.seam_law_clients.proofs.LastBases.{reaps_make_no_call, reaps_stray_none, looks_make_no_call, looks_stray_none}
use Rattle.seam_law_clients.proofs.clients.nothing_is_stray_at_a_base_node_in_the_last_phases.Goals as goal

pub returns-clause-reap_calls : goal.returns-clause-reap_calls
returns-clause-reap_calls c = λ f u between parts small es may vs v run e one.
    reaps_make_no_call f u between parts small es may vs v run e one

pub returns-clause-reaps : goal.returns-clause-reaps
returns-clause-reaps c = λ f u between parts small es may vs v run e one. reaps_stray_none f u between parts small es may vs v run e one

pub returns-clause-look_calls : goal.returns-clause-look_calls
returns-clause-look_calls c = λ f u between parts small vs v run e one. looks_make_no_call f u between parts small vs v run e one

pub returns-clause-looks : goal.returns-clause-looks
returns-clause-looks c = λ f u between parts small vs v run e one. looks_stray_none f u between parts small vs v run e one
