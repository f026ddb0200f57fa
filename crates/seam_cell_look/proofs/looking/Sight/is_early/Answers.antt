use Rattle.std.proofs.Common.{ap, sym, map, ◌∙◌}
use Rattle.seam_node_steps.specs.Prelude.{seen_as, CellView, known_to}
use Rattle.seam_cell_parts.specs.Kept.{here_in}
use Rattle.seam_cell_look.specs.Looking.{seeing}
use Rattle.seam_cell_look.specs.Near.{is_early}
use Rattle.seam_cell_look.proofs.looking.Sight.is_early.Goals as goal

pub returns : goal.returns
returns c = λ k.
    let d : CellView = seeing k (here_in c.args.self.now.known.now) c.args.self.now.reals.now.items c.args.self.now.copies.now.ghosts in
    c.leaves_early.ensures k
    ∙ ap (is_early c.args.view.now.core (map seen_as (known_to d c.args.self.now.own))) (sym c.in-Leave.is)
