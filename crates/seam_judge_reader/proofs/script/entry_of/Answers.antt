use Rattle.std.proofs.Common.{◌≡◌, ◌∙◌, ap}
use Rattle.seam_judge_reader.proofs.ScriptSteps.{order_from}
use Rattle.seam_judge_reader.proofs.script.entry_of.Goals as goal

pub returns-in-Some-pop : goal.returns-in-Some-pop
returns-in-Some-pop c = λ h b x none is.
    c.ordered.ensures h x c.in-Some-pop.field-0-0
    (order_from h b x c.pop.new.self.items _ c.into_vec.result.items none (c.into_vec.ensures ∙ ap (λ a. a.orders) is)
    c.in-Some-pop.ensures.items)
