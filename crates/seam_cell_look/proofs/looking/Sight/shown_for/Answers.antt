use Rattle.std.proofs.Common.{ap, sym, ◌∙◌}
use Rattle.std.specs.Prelude.{option_map}
use Rattle.seam_node_steps.specs.Prelude.{Set, Enter, shown_for, CellView, known_to}
use Rattle.seam_cell_parts.specs.Kept.{here_in}
use Rattle.seam_cell_look.specs.Looking.{seeing}
use Rattle.seam_cell_look.proofs.looking.Sight.shown_for.Goals as goal
use Rattle.seam_cell_look.proofs.looking.Sight.shown_for.Goals.{in-Set, in-Enter}

pub returns-clause-shown : goal.returns-clause-shown
returns-clause-shown c = λ k.
    let d : CellView = seeing k (here_in c.args.self.now.known.now) c.args.self.now.reals.now.items c.args.self.now.copies.now.ghosts in
    elim c.match-look.branch [
      | in-Set w ↦
          let shown = rw w.e-is at c.shown_as.ensures in
          let copy = rw w.e-is at (c.in_ok-copy.ensures.copy k) in
          shown ∙ (ap (option_map (Set w.in-Set.e)) copy ∙ ap (shown_for (known_to d c.args.self.now.own)) (sym w.in-Set.is))
      | in-Enter w ↦
          let shown = rw w.e-is at c.shown_as.ensures in
          let copy = rw w.e-is at (c.in_ok-copy.ensures.copy k) in
          shown ∙ (ap (option_map (Enter w.in-Enter.e)) copy ∙ ap (shown_for (known_to d c.args.self.now.own)) (sym w.in-Enter.is))
    ]
