use Rattle.std.proofs.Common.{ap}
use Rattle.seam_node_steps.specs.Prelude.{CellView}
use Rattle.seam_cell_told.proofs.ToldAgain.{none_told}
use Rattle.seam_cell.proofs.LoadLemmas.{listed_whole}
use Rattle.seam_cell.proofs.cell.Cell.list_all.Goals as goal

pub invariant_of-self : goal.invariant_of-self
invariant_of-self c =
    let old = c.self.inside in (
      listed_whole old.known old.reals old.remotes old.lists _ c.self.invariant.0,
      none_told _ c.clear.new.self c.clear.ensures,
    )

pub returns : goal.returns
returns c = ap (λ (v : CellView). record v { survey = c.args.survey }) c.self.view_is
