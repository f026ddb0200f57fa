use Rattle.std.proofs.Common.{◌≡◌, ◌∙◌, Some, sym, ap, subst}
use Rattle.seam_accept.specs.Refines.{Refines}
use Rattle.seam_rule_rounds.specs.Prelude.{with_bounds, with_round_ended}
use Rattle.seam_judge_reader.proofs.script.begin_round.Goals as goal

pub returns-in-Some : goal.returns-in-Some
returns-in-Some c = λ h b refines.
    subst (λ o. Refines h (with_bounds (with_round_ended b) o) c.set_tree.new.self)
    (sym c.in-Some.is ∙ ap (λ r. r.bounds) c.round.view_is)
    (c.set_tree.ensures h (with_round_ended b) (c.take_batch.ensures.ended h b refines))

pub returns-in_default : goal.returns-in_default
returns-in_default c = λ h b refines.
    subst (λ o. Refines h (with_bounds (with_round_ended b) o) c.take_batch.new.self)
    (sym c.in_default.is ∙ ap (λ r. r.bounds) c.round.view_is) (c.take_batch.ensures.ended h b refines)
