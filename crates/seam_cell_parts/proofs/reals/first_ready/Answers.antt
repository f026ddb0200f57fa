use Rattle.std.proofs.Common.{ap, sym, ◌∙◌}
use Rattle.std.specs.FinMap as table
use Rattle.seam_node_steps.specs.Cells.{real_is_ready}
use Rattle.seam_cell_parts.specs.Sets.{first_of}
use Rattle.seam_cell_parts.proofs.MarkLemmas.{first_marked}
use Rattle.seam_cell_parts.proofs.SetLemmas.{none_first}
use Rattle.seam_cell_parts.proofs.reals.first_ready.Goals as goal

pub returns-then-is_empty : goal.returns-then-is_empty
returns-then-is_empty c =
    none_first c.args.reals.now.ready (sym c.is_empty.ensures ∙ c.if-is_empty.true)
    ∙ (ap first_of c.requires.ready ∙ first_marked real_is_ready (table.entries c.args.reals.now.items.items))

pub returns : goal.returns
returns c =
    c.first.ensures
    ∙ (ap first_of c.requires.ready ∙ first_marked real_is_ready (table.entries c.args.reals.now.items.items))
