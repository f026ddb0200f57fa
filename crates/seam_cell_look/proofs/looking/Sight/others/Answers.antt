use Rattle.std.proofs.Common.{◌∙◌, map}
use Rattle.std.specs.List.{filter}
use Rattle.seam_node_steps.specs.Cells.{CellView}
use Rattle.seam_cell_parts.specs.Kept.{here_in}
use Rattle.seam_cell_look.specs.Looking.{seeing}
use Rattle.seam_cell_seen.specs.Merging.{seen_at_location, is_other, without_reals, merged}
use Rattle.seam_cell_look.proofs.NearLemmas.{all_are}
use Rattle.seam_cell_look.proofs.looking.Sight.others.Goals as goal

pub returns : goal.returns
returns c = λ k.
    let d : CellView = seeing k (here_in c.args.self.now.known.now) c.args.self.now.reals.now.items c.args.self.now.copies.now.ghosts in
    let own = c.args.self.now.own in
    let reals = c.deref.ensures.value ∙ c.in_ok-reals.ensures in
    let copies = c.in_ok-copies.ensures in
    c.in_ok-seen.ensures
    ∙ ((λ i. map seen_at_location (filter (is_other own) (merged (reals i) (without_reals d.reals (copies i))))) ∙ all_are d own)
