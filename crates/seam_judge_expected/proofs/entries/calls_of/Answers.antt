use Rattle.std.proofs.Common.{[], ◌∷◌, ◌++◌, ◌∙◌, ap}
use Rattle.std.proofs.lemmas.List.Elements.{filter_map-append}
use Rattle.seam_rule_rounds.specs.Prelude.{called, calls_of, Entry}
use Rattle.seam_judge_expected.proofs.Walks.{appended}
use Rattle.seam_judge_expected.proofs.entries.calls_of.Goals as goal

pub loop-entry-preserved : goal.loop-entry-preserved
loop-entry-preserved c =
    appended calls_of (filter_map-append called) c.args.entries.now c.loop-entry.entry-index c.entry-item.result c.loop-entry-test.true
    c.loop-entry.calls.items c.add_called.new.calls.items c.loop-entry.invariant
    (c.in_ok-add_called.ensures ∙ ap (λ (x : Entry). c.loop-entry.calls.items ++ calls_of (x ∷ [])) c.entry-item.is)
