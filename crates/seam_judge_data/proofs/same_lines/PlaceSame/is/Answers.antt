use Rattle.std.proofs.Common.{◌∙◌, sym, refl, arith}
use Rattle.seam_judge_data.proofs.CellNumbers.{same_places}
use Rattle.seam_judge_data.proofs.same_lines.PlaceSame.is.Goals as goal

pub returns : goal.returns
returns c = (
  (λ _. sym c.self.view_is
      ∙ same_places (record { home = c.self.inside.home; ghosts = c.self.inside.ghosts })
      (record { home = c.other.inside.home; ghosts = c.other.inside.ghosts }) c.loop-cell.cell (cc) c.self.invariant c.other.invariant
      (omega arith) c.loop-cell.invariant
      ∙ c.other.view_is),
  (λ _. refl),
)
