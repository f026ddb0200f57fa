use Rattle.std.proofs.Common.{[], ◌∷◌, ◌++◌, ◌∙◌, ap}
use Rattle.std.proofs.lemmas.List.Elements.{filter_map-append}
use Rattle.seam_rule_rounds.specs.Prelude.{created, creates_of, Entry}
use Rattle.seam_judge_expected.proofs.Walks.{appended}
use Rattle.seam_judge_expected.proofs.entries.creates_of.Goals as goal

pub loop-entry-preserved : goal.loop-entry-preserved
loop-entry-preserved c =
    appended creates_of (filter_map-append created) c.args.entries.now c.loop-entry.entry-index c.entry-item.result c.loop-entry-test.true
    c.loop-entry.creates.items c.add_created.new.creates.items c.loop-entry.invariant
    (c.in_ok-add_created.ensures ∙ ap (λ (x : Entry). c.loop-entry.creates.items ++ creates_of (x ∷ [])) c.entry-item.is)
