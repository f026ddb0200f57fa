use Rattle.std.proofs.Common.{◌++◌, true, false, sym, ap, ◌∙◌}
use Rattle.seam_node_steps.specs.Prelude.{with_entity}
use Rattle.seam_cell.proofs.LoadLemmas.{comes_late_by, comes_listed}
use Rattle.seam_cell.proofs.cell.Cell.hear_late.Goals as goal

pub returns-then-came-clause-state : goal.returns-then-came-clause-state
returns-then-came-clause-state c from =
    let now = c.args.self.now in
    let r = c.args.parcel in
    c.list_all.ensures
    ∙ comes_listed now from r c.args.brought.now c.requires.same c.requires.late c.take_in.new.self c.in-Ok.listed
    c.in-Ok-take_in.ensures.state
    (c.in-Ok.ensures ∙ (ap (λ e. with_entity e c.self.inside.lists.survey) (c.entity.ensures ∙ ap (λ p. p.entity) c.parcel.view_is)
    ∙ ap (λ v. with_entity r.entity v.survey) c.self.view_is))
    (sym c.if-came.true ∙ c.in-Ok-take_in.ensures.came)

pub returns-then-came-clause-sent : goal.returns-then-came-clause-sent
returns-then-came-clause-sent c from =
    let late = comes_late_by c.args.self.now from c.args.parcel c.args.brought.now c.requires.same true c.requires.late
    (sym c.if-came.true ∙ c.in-Ok-take_in.ensures.came) in
    c.in-Ok-take_in.ensures.sent ∙ sym (ap (λ t. c.args.out.now.items ++ t.sent) late)

pub returns-in-Ok-take_in-clause-state : goal.returns-in-Ok-take_in-clause-state
returns-in-Ok-take_in-clause-state c from =
    let late = comes_late_by c.args.self.now from c.args.parcel c.args.brought.now c.requires.same false c.requires.late
    (sym c.if-came.false ∙ c.in-Ok-take_in.ensures.came) in
    c.in-Ok-take_in.ensures.state ∙ sym (ap (λ t. t.state) late)

pub returns-in-Ok-take_in-clause-sent : goal.returns-in-Ok-take_in-clause-sent
returns-in-Ok-take_in-clause-sent c from =
    let late = comes_late_by c.args.self.now from c.args.parcel c.args.brought.now c.requires.same false c.requires.late
    (sym c.if-came.false ∙ c.in-Ok-take_in.ensures.came) in
    c.in-Ok-take_in.ensures.sent ∙ sym (ap (λ t. c.args.out.now.items ++ t.sent) late)
