use Rattle.seam_law_ghosts.proofs.Prelude.{sym, subst, IsHushed}
use Rattle.seam_law_ghosts.proofs.Telling.{true_first, first_place}
use Rattle.seam_law_ghosts.proofs.Hushing.{quelled_leads, hushed_where}
use Rattle.seam_law_ghosts.proofs.truths.no_news_comes_to_the_real.Goals as goal

pub returns : goal.returns
returns c = λ f e ty w v es frame known h spared low first told hushed run k r at.
    hushed_where f frame e ty known h.real first v
    (quelled_leads f frame e ty known h.real first w v es
    (record {
      is = true_first f e ty w h first low told;
      spared = spared;
      hushed = subst (IsHushed e w) (sym (first_place f e ty w h first low told)) hushed;
    }) run) k r at
