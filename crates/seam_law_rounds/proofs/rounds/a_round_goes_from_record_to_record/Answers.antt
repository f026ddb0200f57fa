use Rattle.seam_law_rounds.proofs.Opened.{opened_between}
use Rattle.seam_law_rounds.proofs.CallsEnd.{calls_end_between}
use Rattle.seam_law_rounds.proofs.Reaping.{reaps_end_between}
use Rattle.seam_law_rounds.proofs.Looking.{look_ends_between}
use Rattle.seam_law_rounds.proofs.rounds.a_round_goes_from_record_to_record.Goals as goal

pub returns-clause-opened : goal.returns-clause-opened
returns-clause-opened c = opened_between

pub returns-clause-calls : goal.returns-clause-calls
returns-clause-calls c = calls_end_between

pub returns-clause-reaps : goal.returns-clause-reaps
returns-clause-reaps c = reaps_end_between

pub returns-clause-looks : goal.returns-clause-looks
returns-clause-looks c = look_ends_between
