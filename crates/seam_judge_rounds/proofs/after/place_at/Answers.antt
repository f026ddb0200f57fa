use Rattle.std.proofs.Common.{sym, ap, ◌∙◌}
use Rattle.std.specs.FinSet as set
use Rattle.seam_tree.specs.Cells.{Cells}
use Rattle.seam_judge_rounds.proofs.Leaving.{ghosts_are_small}
use Rattle.seam_judge_rounds.proofs.after.place_at.Goals as goal

pub invariant_of-result : goal.invariant_of-result
invariant_of-result c = λ n held.
    ghosts_are_small c.deref.result.now c.home.inside.entity n
    (ap (λ (cells : Cells). set.contains cells n) (sym c.ghosts_among.ensures) ∙ held)
