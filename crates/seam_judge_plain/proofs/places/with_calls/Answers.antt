use Rattle.std.proofs.Common.{◌∙◌, ap}
use Rattle.std.specs.Prelude.{filter}
use Rattle.std.proofs.lemmas.List.Elements.{filter-append}
use Rattle.seam_rule_rounds.specs.Prelude.{is_for, calls_of}
use Rattle.seam_judge_plain.proofs.places.with_calls.Goals as goal

pub returns : goal.returns
returns c = λ i p e.
    let before = c.args.before.now in
    (ap (filter (is_for p e)) c.in_ok-calls.ensures
    ∙ filter-append (is_for p e) before.calls.items (calls_of before.current.items)) i
