use Rattle.std.proofs.Common.{[], ◌∷◌, ap, ◌∙◌}
use Rattle.std.proofs.lemmas.Result.{on_ok_weaker}
use Rattle.seam_node_steps.specs.Prelude.{own_of, Own, properties, own_due}
use Rattle.seam_cell_parts.specs.Kept.{here_in}
use Rattle.seam_cell_look.specs.Looking.{own_when}
use Rattle.seam_cell_told.specs.Updates.{with_shown}
use Rattle.seam_cell_look.proofs.looking.Sight.add_own.Goals as goal

pub returns : goal.returns
returns c =
    let h = here_in c.args.self.now.known.now in
    let r = c.args.real.now.core in
    let own = Own r.version (own_of (properties h r.ty) r.state) in
    on_ok_weaker c.push.result (λ is. is ∙ ap (with_shown c.args.shown.now)
    ((λ i. Own (c.version-2.ensures i) ((c.in_ok-state-2.ensures ∙ c.in_ok-state.ensures h.me h.settings) i) ∷ [])
    ∙ ap (λ b. own_when b own) (c.if-not-is_own_due.ensures ∙ ap (own_due c.args.witness.now.told) c.version.ensures))) c.push.ensures
