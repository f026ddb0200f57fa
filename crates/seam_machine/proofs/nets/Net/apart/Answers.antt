use Rattle.std.proofs.Common.{◌*◌, ◌∙◌, ap, length}
use Rattle.seam_machine.specs.Nets.{flat}
use Rattle.seam_machine.proofs.Flats.{length-flat}
use Rattle.seam_machine.proofs.nets.Net.apart.Goals as goal

pub returns-clause-many : goal.returns-clause-many
returns-clause-many g c =
    let q = c.self.invariant.0.square in
    let n = length c.self.inside.nodes.items in
    ap length (c.in_ok-links.ensures ∙ ap flat (c.into_rows.ensures ∙ c.settle.ensures.rows))
    ∙ (length-flat n c.self.inside.links.rows q.links ∙ ap (λ k. k * n) q.rows)
