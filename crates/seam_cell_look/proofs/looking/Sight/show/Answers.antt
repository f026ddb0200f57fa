use Rattle.std.proofs.Common.{◌≡◌, [], ap, ◌∙◌}
use Rattle.std.specs.List.{filter_map}
use Rattle.seam_node_steps.specs.Prelude.{witness_of, shown_for, CellView, known_to, base_of}
use Rattle.seam_cell_parts.specs.Kept.{here_in}
use Rattle.seam_cell_look.specs.Looking.{seeing, own_told}
use Rattle.seam_cell_told.specs.Updates.{with_shown, updates_of}
use Rattle.seam_cell_look.proofs.LookLemmas.{all_is_shown}
use Rattle.seam_cell_look.proofs.looking.Sight.show.Goals as goal

pub returns-clause-shown : goal.returns-clause-shown
returns-clause-shown c = λ k.
    let h = here_in c.args.self.now.known.now in
    let d : CellView = seeing k h c.args.self.now.reals.now.items c.args.self.now.copies.now.ghosts in
    let known = known_to d c.args.self.now.own in
    let r = c.args.real.now.core in
    let sent = c.args.witness.now.sent in
    let begun : c.new-shown.result ≡ updates_of h r sent [] =
    c.new-shown.ensures
    ∙ (λ i. record {
      to = (c.base_node_of-to.ensures ∙ ap (base_of h) c.entity-e.ensures) i;
      entity = c.entity-e.ensures i;
      sent = sent;
      shown = [];
    }) in
    c.in_ok-add_all.ensures.shown k
    ∙ (ap (λ u. with_shown u (filter_map (shown_for known) c.args.looks.now))
    (c.in_ok-add_own.ensures ∙ ap (λ u. with_shown u (own_told h r c.args.witness.now.told)) begun)
    ∙ ap (updates_of h r sent) (all_is_shown h r (witness_of c.args.witness.now) known c.args.looks.now))
