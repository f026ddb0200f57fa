use Rattle.std.proofs.Common.{◌≡◌, ◌&&◌, true, false, sym, ap, ◌∙◌}
use Rattle.seam_node_steps.specs.Prelude.{order_of, may_offer, fits_cell_part, may_execute}
use Rattle.seam_cell_parts.specs.Kept.{here_in}
use Rattle.seam_cell_cases.proofs.calls.may_call.Goals as goal

pub returns-then-may_offer : goal.returns-then-may_offer
returns-then-may_offer c =
    let h = here_in c.args.known.now in
    let r = c.args.real.now.core in
    let k = c.args.call.now in
    let fits : true ≡ fits_cell_part h r.entity r.ty k =
    c.if-fits_cell_part.ensures h.me ∙ (λ i. fits_cell_part h (c.entity.ensures i) (c.ty.ensures i) k) in
    c.may_execute.ensures ∙ (λ i. fits i && (c.if-may_offer.ensures i && may_execute r))

pub returns-else-fits_cell_part : goal.returns-else-fits_cell_part
returns-else-fits_cell_part c =
    let h = here_in c.args.known.now in
    let r = c.args.real.now.core in
    let k = c.args.call.now in
    let fits : false ≡ fits_cell_part h r.entity r.ty k =
    sym c.if-fits_cell_part.false
    ∙ (c.fits_cell_part.ensures h.me ∙ (λ i. fits_cell_part h (c.entity.ensures i) (c.ty.ensures i) k)) in
    c.if-fits_cell_part.false ∙ ap (λ b. b && (may_offer (order_of r.orders k.sender) k.number && may_execute r)) fits
