use Rattle.seam_law_rounds.proofs.Prelude.{all_shown}
use Rattle.seam_law_rounds.proofs.PartsGoing.{serves_after}
use Rattle.seam_law_rounds.proofs.Calms.{look_serves}
use Rattle.seam_law_rounds.proofs.base_parts.each_client_is_shown_its_updates_in_order.Goals as goal

pub returns-clause-round : goal.returns-clause-round
returns-clause-round c = λ f w b may e k r here v es run. serves_after f w b may e k r here v es run

pub returns-clause-looks : goal.returns-clause-looks
returns-clause-looks c = λ f u between parts small vs v run e k r here. look_serves f u between parts small vs v run e k r here

pub returns-clause-shown : goal.returns-clause-shown
returns-clause-shown c = λ f e ty first w h. h.delivery.parts

pub returns-clause-all : goal.returns-clause-all
returns-clause-all c = λ f e ty first w h quiet. all_shown f e w h.one.fits.frame quiet ty first h
