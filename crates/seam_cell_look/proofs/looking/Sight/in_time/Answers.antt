use Rattle.std.proofs.Common.{◌≡◌, ap, sym, subst, map, not, ◌∙◌}
use Rattle.std.specs.Prelude.{IfOk}
use Rattle.std.specs.List.{filter, list_any}
use Rattle.seam_node_steps.specs.Prelude.{seen_as, CellView, known_to}
use Rattle.seam_cell_parts.specs.Kept.{here_in}
use Rattle.seam_cell_look.specs.Looking.{seeing}
use Rattle.seam_cell_look.specs.Near.{is_early}
use Rattle.seam_cell_look.proofs.NearLooks.{all_left}
use Rattle.seam_cell_look.proofs.looking.Sight.in_time.Goals as goal

pub returns-then-has_early-clause-looks : goal.returns-then-has_early-clause-looks
returns-then-has_early-clause-looks c = λ k.
    let d : CellView = seeing k (here_in c.args.self.now.known.now) c.args.self.now.reals.now.items c.args.self.now.copies.now.ghosts in
    let early = is_early c.args.view.now.core (map seen_as (known_to d c.args.self.now.own)) in
    subst (λ l. IfOk c.without_early.result (λ v. v.items ≡ filter (λ look. not (early look)) l)) c.deref-then-has_early.ensures.value
    (c.without_early.ensures k)

pub returns-clause-looks : goal.returns-clause-looks
returns-clause-looks c = λ k.
    let d : CellView = seeing k (here_in c.args.self.now.known.now) c.args.self.now.reals.now.items c.args.self.now.copies.now.ghosts in
    let early = is_early c.args.view.now.core (map seen_as (known_to d c.args.self.now.own)) in
    sym (all_left early c.args.looks.items (ap (list_any early) (sym c.deref.ensures.value) ∙ (sym (c.has_early.ensures k)
    ∙ c.if-has_early.false)))
