use Rattle.seam_law_calls.proofs.ClientRuns.{finds_client}
use Rattle.seam_law_calls.proofs.BaseQuiet.{all_shown}
use Rattle.seam_law_calls.proofs.base_calls.a_clients_updates_come_in_order.Goals as goal

pub returns-clause-finds : goal.returns-clause-finds
returns-clause-finds c = λ f e ty update n w h most room a k u ms at. finds_client f e ty update n w h most room a k u ms at

pub returns-clause-all : goal.returns-clause-all
returns-clause-all c = λ f e ty update w h quiet. all_shown f e w h.one.fits.frame quiet ty update h
