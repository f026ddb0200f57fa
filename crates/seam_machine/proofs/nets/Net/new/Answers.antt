use Rattle.std.proofs.Common.{◌∙◌, ap}
use Rattle.seam_machine.proofs.Parts.{net_of_empty}
use Rattle.seam_machine.proofs.nets.Net.new.Goals as goal

pub over-requires : goal.over-requires
over-requires g c =
    net_of_empty c.args.nodes.items c.in_ok-links.links.rows c.len.result (c.len.ensures ∙ c.args.nodes.ok.0) c.requires
    (ap (λ l. l.rows) c.in_ok-links.ensures ∙ c.in_ok-rows.ensures)
