use Rattle.seam_law_clients.proofs.Prelude.{refl, witness_looked}
use Rattle.seam_law_clients.proofs.LookFits.{fit_again}
use Rattle.seam_law_clients.proofs.looks.clients_fit_after_the_looks.Goals as goal

pub returns : goal.returns
returns c f u between copies placed reach room clients fit vs v run quiet =
    fit_again f u between room vs v run quiet (c.the_last_phases_leave_places.ensures.looks f u between vs v run) clients fit
    (λ e k r at w fits cell node.
    c.a_client_fits_after_a_look.ensures f u between copies placed reach e k r at w (clients e) fits cell node
    (witness_looked cell e r w) refl)
