use Rattle.std.proofs.Common.{◌∙◌}
use Rattle.seam_node_steps.specs.Cells.{CellView}
use Rattle.seam_cell_parts.specs.Kept.{here_in}
use Rattle.seam_cell_look.specs.Looking.{seeing}
use Rattle.seam_cell_look.proofs.NearLemmas.{own_unseen, other_seen}
use Rattle.seam_cell_look.proofs.looking.Sight.seen_of.Goals as goal

pub returns-then-e-self : goal.returns-then-e-self
returns-then-e-self c = λ k.
    let d : CellView = seeing k (here_in c.args.self.now.known.now) c.args.self.now.reals.now.items c.args.self.now.copies.now.ghosts in
    own_unseen d c.args.self.now.own c.args.e c.if-e-self.true

pub returns : goal.returns
returns c = λ k.
    let d : CellView = seeing k (here_in c.args.self.now.known.now) c.args.self.now.reals.now.items c.args.self.now.copies.now.ghosts in
    c.known_at.ensures k ∙ other_seen d c.args.self.now.own c.args.e c.if-e-self.false
