use Rattle.seam_law_ghosts.proofs.Rounding.{loaded_copied, calls_end_copied}
use Rattle.seam_law_ghosts.proofs.Ending.{opened_copied, reaps_end_copied, looks_end_copied}
use Rattle.seam_law_ghosts.proofs.newest.copies_go_from_record_to_record.Goals as goal

pub returns-clause-opened : goal.returns-clause-opened
returns-clause-opened c = opened_copied

pub returns-clause-loaded : goal.returns-clause-loaded
returns-clause-loaded c = loaded_copied

pub returns-clause-calls : goal.returns-clause-calls
returns-clause-calls c = calls_end_copied

pub returns-clause-reaps : goal.returns-clause-reaps
returns-clause-reaps c = reaps_end_copied

pub returns-clause-looks : goal.returns-clause-looks
returns-clause-looks c = looks_end_copied
