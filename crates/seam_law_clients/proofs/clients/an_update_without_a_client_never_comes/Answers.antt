use Rattle.seam_law_clients.proofs.Finding.{round_finds, look_finds_it}
use Rattle.seam_law_clients.proofs.clients.an_update_without_a_client_never_comes.Goals as goal

pub returns-clause-round : goal.returns-clause-round
returns-clause-round c = λ f w b may v es run e a k u ms at. round_finds f w b may v es run e a k u ms at

pub returns-clause-reaps : goal.returns-clause-reaps
returns-clause-reaps c = c.an_update_finds_its_client.ensures.reaps

pub returns-clause-looks : goal.returns-clause-looks
returns-clause-looks c = λ f u between parts small vs v run e a k m ms at. look_finds_it f u between parts small vs v run e a k m ms at
