use Rattle.std.proofs.Common.{Some, ap, sym, ◌∙◌}
use Rattle.seam_node_steps.specs.Cells.{without}
use Rattle.seam_cell_parts.specs.Sets.{members}
use Rattle.seam_cell_parts.proofs.SetLemmas.{alone_goes, another_stays, missing_goes}
use Rattle.seam_cell_parts.proofs.entity_set.EntitySet.remove.Goals as goal

pub returns-then-contains : goal.returns-then-contains
returns-then-contains c =
    ap (λ o. members o c.drop_number.new.numbers.keys) c.in-None.is
    ∙ (c.drop_number.ensures.removed
    ∙ (sym (ap (λ o. without c.args.e (members o c.self.inside.numbers.keys)) c.in-None.is) ∙ ap (without c.args.e) c.self.view_is))

pub returns-else-contains : goal.returns-else-contains
returns-else-contains c =
    let none = missing_goes c.args.e c.self.inside.numbers.keys (sym c.contains.ensures ∙ c.if-contains.false) in
    sym c.self.view_is
    ∙ (ap (λ o. members o c.self.inside.numbers.keys) c.in-None.is
    ∙ (sym none
    ∙ (sym (ap (λ o. without c.args.e (members o c.self.inside.numbers.keys)) c.in-None.is) ∙ ap (without c.args.e) c.self.view_is)))

pub returns-then-other-e : goal.returns-then-other-e
returns-then-other-e c =
    alone_goes c.args.e c.self.inside.one c.self.inside.numbers.keys (c.in-Some.is ∙ ap (λ x. Some x) c.if-other-e.true)
    c.self.invariant.alone
    ∙ ap (without c.args.e) c.self.view_is

pub returns-else-other-e : goal.returns-else-other-e
returns-else-other-e c =
    sym c.self.view_is
    ∙ (another_stays c.args.e c.in-Some.other c.self.inside.one c.self.inside.numbers.keys c.in-Some.is c.if-other-e.false
    ∙ ap (without c.args.e) c.self.view_is)

pub invariant_of-self : goal.invariant_of-self
invariant_of-self c = record { rising = c.self.invariant.rising; alone = tt }
