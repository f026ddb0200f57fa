use Rattle.seam_law_clients.proofs.Reaped.{part_same, parts_gone}
use Rattle.seam_law_clients.proofs.clients.a_reaped_client_is_shown_no_more.Goals as goal

pub returns-clause-until : goal.returns-clause-until
returns-clause-until c = λ f u between parts es may vs v run e home r here k p at.
    part_same f u between parts es may e home r here vs v run k p at

pub returns-clause-gone : goal.returns-clause-gone
returns-clause-gone c = λ f u between parts es may vs v run quiet. parts_gone f u between parts es may vs v run quiet
