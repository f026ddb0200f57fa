use Rattle.std.specs.Prelude.{find, ◌==◌}
use Rattle.std.proofs.lemmas.List.Elements.{filter_map-append}
use Rattle.seam_judge_expected.specs.Entities.{among_numbers}
use Rattle.seam_judge_expected.proofs.Walks.{appended}
use Rattle.seam_judge_expected.proofs.entities.among_numbers.Goals as goal

pub loop-number-preserved : goal.loop-number-preserved
loop-number-preserved c =
    appended (among_numbers c.args.creates.now) (filter_map-append (λ e. find (λ x. x.entity == e) c.args.creates.now)) c.args.numbers.now
    c.loop-number.number-index _
    c.loop-number-test.true _ _ c.loop-number.invariant c.in_ok-add_found.ensures
