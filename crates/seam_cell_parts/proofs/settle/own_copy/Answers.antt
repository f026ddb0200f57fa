use Rattle.std.proofs.Common.{Some, ap, sym, ◌∙◌}
use Rattle.seam_node_steps.specs.Prelude.{copy_with, node_with, copy_if}
use Rattle.seam_cell_parts.specs.News.{state_of}
use Rattle.seam_cell_parts.proofs.settle.own_copy.Goals as goal

pub returns : goal.returns
returns c me settings =
    let of = c.args.of.now in
    ap Some (c.in_ok-copy.ensures me settings)
    ∙ ap (λ b. copy_if b (copy_with (node_with of.defs.now me settings) of.ty of.version (state_of of)))
    (sym c.if-not-holds.false ∙ c.holds.ensures.value)
