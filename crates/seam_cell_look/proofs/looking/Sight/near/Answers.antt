use Rattle.std.proofs.Common.{ap, ◌∙◌, map}
use Rattle.std.specs.List.{filter}
use Rattle.seam_node_steps.specs.Cells.{CellView}
use Rattle.seam_cell_parts.specs.Kept.{here_in}
use Rattle.seam_cell_look.specs.Looking.{seeing}
use Rattle.seam_cell_seen.specs.Merging.{seen_at_location, is_other, without_reals, merged}
use Rattle.seam_cell_look.proofs.NearLemmas.{near_are}
use Rattle.seam_cell_look.proofs.looking.Sight.near.Goals as goal

pub returns : goal.returns
returns c = λ k.
    let d : CellView = seeing k (here_in c.args.self.now.known.now) c.args.self.now.reals.now.items c.args.self.now.copies.now.ghosts in
    let own = c.args.self.now.own in
    c.in_ok-seen.ensures
    ∙ (ap (λ l. map seen_at_location (filter (is_other own) (merged l (without_reals d.reals c.in_ok-near_copies.near_copies.items))))
    c.deref.ensures.value
    ∙ near_are c.args.view.now.core c.args.own c.in-Some.reach c.in-Some.ensures.sum d own c.in_ok-near_reals.near_reals.items
    c.in_ok-near_copies.near_copies.items c.in_ok-near_reals.ensures c.in_ok-near_copies.ensures)
