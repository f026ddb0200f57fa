use Rattle.std.proofs.Common.{◌∙◌, ap, map, List}
use Rattle.seam_call.specs.declared.shown.Line.{Line}
use Rattle.seam_rule_rounds.specs.Prelude.{ClientReplica, new_client, after_lines, one_look}
use Rattle.seam_judge_expected.proofs.ListedLemmas.{if_ok}
use Rattle.seam_judge_rounds.proofs.looked.look_of.Goals as goal

pub returns : goal.returns
returns c = if_ok c.one_look.result
    (λ xs is. is ∙ ap (λ (q : ClientReplica). one_look q c.args.entity c.args.rows.now)
    (c.in_ok-replica.ensures
    ∙ ap (λ (ls : List Line). after_lines (new_client c.args.header.now.settings) ls)
    (ap (map (λ x. x.now)) c.deref.ensures.value ∙ c.in_ok-told.ensures)))
    c.one_look.ensures
