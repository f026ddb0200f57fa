use Rattle.std.proofs.Common.{◌≡◌, take}
use Rattle.std.specs.List.{filter_map}
use Rattle.seam_node_steps.specs.Prelude.{shown_for, CellView, known_to}
use Rattle.seam_cell_parts.specs.Kept.{here_in}
use Rattle.seam_cell_look.specs.Looking.{seeing}
use Rattle.seam_cell_seen.specs.Known.{known_with}
use Rattle.seam_cell_told.specs.Told.{AreStillAsKnown}
use Rattle.seam_cell_told.specs.Updates.{with_shown}
use Rattle.seam_cell_look.proofs.looking.Sight.add_all.Given as goal

abbrev pub invariant-loop-look : goal.invariant-loop-look
invariant-loop-look l =
    ((c : CellView) →
    let d : CellView = seeing c (here_in l.self.known.now) l.self.reals.now.items l.self.copies.now.ghosts in
    l.shown ≡ with_shown l.fn.shown (filter_map (shown_for (known_to d l.self.own)) (take l.look-index l.looks)))
    × AreStillAsKnown l.self.own (known_with (here_in l.self.known.now) l.self.reals.now.items l.self.copies.now.ghosts) l.fn.told l.told
