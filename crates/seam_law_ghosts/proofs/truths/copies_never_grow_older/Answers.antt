use Rattle.seam_law_ghosts.proofs.Prelude.{arith}
use Rattle.seam_law_ghosts.proofs.Telling.{true_first}
use Rattle.seam_law_ghosts.proofs.Books.{risen_leads, copies_rise}
use Rattle.seam_law_ghosts.proofs.truths.copies_never_grow_older.Goals as goal

pub returns-clause-beats : goal.returns-clause-beats
returns-clause-beats c = λ f e ty w v es frame known h spared low first told run k.
    (risen_leads f frame e ty known h.real first w w v es
    (record { is = true_first f e ty w h first low told; spared = spared; books = λ k. omega arith }) run).books k

pub returns-clause-versions : goal.returns-clause-versions
returns-clause-versions c = λ f e ty w v es frame known h spared low first told run k c d was now.
    copies_rise f frame e ty known h.real first w v
    (risen_leads f frame e ty known h.real first w w v es
    (record { is = true_first f e ty w h first low told; spared = spared; books = λ k. omega arith }) run) told k c d was now
