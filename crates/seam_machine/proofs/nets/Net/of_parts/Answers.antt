use Rattle.std.proofs.Common.{length, ap, arith}
use Rattle.seam_machine.proofs.Parts.{net_of_rows}
use Rattle.seam_machine.proofs.nets.Net.of_parts.Goals as goal

pub over-requires : goal.over-requires
over-requires g c =
    let many = ap (λ p. length p.nodes) c.parts.view_is in
    net_of_rows c.parts.inside.nodes.items c.in_ok-rows.rows.items c.in_ok-links.links.rows c.len.result (omega (arith, c.len.ensures))
    (omega (arith, c.requires.few, many)) c.in_ok-rows.ensures.count c.in_ok-rows.ensures.wide (ap (λ l. l.rows) c.in_ok-links.ensures)
