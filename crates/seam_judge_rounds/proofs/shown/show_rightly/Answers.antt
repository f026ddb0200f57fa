use Rattle.std.proofs.Common.{◌∙◌, ap, map, List}
use Rattle.seam_call.specs.declared.shown.Line.{Line}
use Rattle.seam_rule_rounds.specs.Prelude.{new_client, after_lines, shown_by_lines, replica_of, truth_of}
use Rattle.seam_judge_data.specs.Standings.{standing_of}
use Rattle.seam_judge_looks.specs.Replicas.{client_of}
use Rattle.seam_judge_rounds.proofs.Rightly.{rightly}
use Rattle.seam_judge_rounds.proofs.shown.show_rightly.Goals as goal

pub returns : goal.returns
returns c =
    rightly (truth_of c.args.case.now.header.now (standing_of c.args.case.now.before.now) (standing_of c.args.case.now.after.now)
    c.args.create)
    c.args.create.entity (client_of c.in_ok-replica.replica)
    (replica_of c.args.case.now.header.now (standing_of c.args.case.now.before.now) c.args.create.entity) c.deref-2.result.now
    c.deref-3.result.now (shown_by_lines (map (λ x. x.now) c.args.lines.now)) c.in_ok-in_turn.in_turn c.in_ok-so.so c.both.result
    (c.in_ok-replica.ensures
    ∙ ap (λ (ls : List Line). after_lines (new_client c.args.case.now.header.now.settings) ls)
    (ap (map (λ x. x.now)) c.deref.ensures.value ∙ c.in_ok-former.ensures))
    (ap (map (λ x. x.now)) c.deref-2.ensures.value ∙ c.in_ok-shown.ensures)
    (ap (map (λ x. x.now)) c.deref-3.ensures.value ∙ c.in_ok-shown.ensures) c.in_ok-in_turn.ensures c.in_ok-so.ensures c.both.ensures
