use Rattle.std.proofs.Common.{◌≡◌, map, drop}
use Rattle.std.specs.List.{list_any}
use Rattle.seam_node_steps.specs.Prelude.{seen_as, CellView, known_to}
use Rattle.seam_cell_parts.specs.Kept.{here_in}
use Rattle.seam_cell_look.specs.Looking.{seeing}
use Rattle.seam_cell_look.specs.Near.{is_early}
use Rattle.seam_cell_look.proofs.looking.Sight.has_early.Given as goal

abbrev pub invariant-loop-look : goal.invariant-loop-look
invariant-loop-look l =
    (c : CellView) →
    let d : CellView = seeing c (here_in l.self.known.now) l.self.reals.now.items l.self.copies.now.ghosts in
    let early = is_early l.view.core (map seen_as (known_to d l.self.own)) in
    list_any early (drop l.look-index l.looks) ≡ list_any early l.looks
