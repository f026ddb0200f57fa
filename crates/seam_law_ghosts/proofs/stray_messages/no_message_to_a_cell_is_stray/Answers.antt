use Rattle.seam_law_ghosts.proofs.NoStrays.{round_free, reaps_free, look_free}
use Rattle.seam_law_ghosts.proofs.stray_messages.no_message_to_a_cell_is_stray.Goals as goal

pub returns-clause-round : goal.returns-clause-round
returns-clause-round c = round_free

pub returns-clause-reaps : goal.returns-clause-reaps
returns-clause-reaps c = reaps_free

pub returns-clause-looks : goal.returns-clause-looks
returns-clause-looks c = look_free
