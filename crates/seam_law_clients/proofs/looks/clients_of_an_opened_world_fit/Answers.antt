use Rattle.seam_law_clients.proofs.Prelude.{sym, ◌∙◌, opened_has_none}
use Rattle.seam_law_clients.proofs.looks.clients_of_an_opened_world_fit.Goals as goal

pub returns : goal.returns
returns c defs settings frame some clients = record {
  each = λ e k r at v seen. absurd (let z = sym (opened_has_none defs settings frame some e k) ∙ at in cc);
}
