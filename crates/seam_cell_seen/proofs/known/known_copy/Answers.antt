use Rattle.std.proofs.Common.{Some, ap, ◌∙◌}
use Rattle.seam_entity.specs.WitnessLooks.{shown_to_others, other_of_real}
use Rattle.seam_cell_parts.specs.Kept.{here_in}
use Rattle.seam_cell_seen.proofs.SeenLemmas.{real_is_known, copy_is_known}
use Rattle.seam_cell_seen.proofs.known.known_copy.Goals as goal

pub returns-in-Some : goal.returns-in-Some
returns-in-Some c =
    let h = here_in c.args.known.now in
    let real = c.observed.ensures in
    ap (λ x. Some x)
    (c.in_ok-shown.ensures h.me h.settings
    ∙ ((λ i. shown_to_others h (real.held i) (real.ty i) (real.version i) (real.state i)) ∙ ap (other_of_real h) c.parcel.view_is))
    ∙ real_is_known h c.args.reals.now.items c.args.copies.now.ghosts c.args.e c.in-Some.parcel.now c.in-Some.ensures.item

pub returns : goal.returns
returns c =
    let h = here_in c.args.known.now in
    let copy = c.of_copy.ensures in
    ap (λ x. Some x)
    (c.in_ok-shown-2.ensures h.me h.settings
    ∙ λ i. shown_to_others h (copy.held i) (copy.ty i) (copy.version i) (copy.state i))
    ∙ copy_is_known h c.args.reals.now.items c.args.copies.now.ghosts c.args.e _ c.in_default.ensures.item
    c.in-Some-get.ensures
