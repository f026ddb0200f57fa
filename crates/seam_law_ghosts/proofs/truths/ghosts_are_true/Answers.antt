use Rattle.seam_law_ghosts.proofs.Telling.{true_first, true_leads}
use Rattle.seam_law_ghosts.proofs.truths.ghosts_are_true.Goals as goal

pub returns : goal.returns
returns c = λ f e ty w v es frame known h spared low first told run.
    true_leads f frame e ty known h.real first w v es (true_first f e ty w h first low told) spared run
