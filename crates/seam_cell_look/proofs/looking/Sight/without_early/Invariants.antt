use Rattle.std.proofs.Common.{◌≡◌, map, not, take}
use Rattle.std.specs.List.{filter}
use Rattle.seam_node_steps.specs.Prelude.{seen_as, CellView, known_to}
use Rattle.seam_cell_parts.specs.Kept.{here_in}
use Rattle.seam_cell_look.specs.Looking.{seeing}
use Rattle.seam_cell_look.specs.Near.{is_early}
use Rattle.seam_cell_look.proofs.looking.Sight.without_early.Given as goal

abbrev pub invariant-loop-look : goal.invariant-loop-look
invariant-loop-look l =
    (c : CellView) →
    let d : CellView = seeing c (here_in l.self.known.now) l.self.reals.now.items l.self.copies.now.ghosts in
    l.left.items ≡ filter (λ look. not (is_early l.view.core (map seen_as (known_to d l.self.own)) look)) (take l.look-index l.looks)
