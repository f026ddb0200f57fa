use Rattle.std.proofs.Common.{◌+◌, ◌++◌, ◌∷◌, [], ◌∙◌, ap, map, Bool, cond, arith}
use Rattle.seam_rule_rounds.specs.FlatTable.{has_changed_at}
use Rattle.seam_judge_expected.proofs.Versions.{filtered_more}
use Rattle.seam_judge_expected.proofs.states.changes_past.Goals as goal

pub loop-v-preserved : goal.loop-v-preserved
loop-v-preserved c = (
  filtered_more (has_changed_at c.args.header.now c.args.part c.args.create (map (λ x. x.now) c.args.order.now)) c.args.version
      c.loop-v.v c.loop-v.changes.items c.add_change.new.changes.items (omega arith) c.loop-v.invariant.0
      (c.in_ok-add_change.ensures ∙ ap (λ (b : Bool). c.loop-v.changes.items ++ cond b ((c.loop-v.v + 1) ∷ []) []) c.in_ok-changed.ensures),
  (λ past. absurd (omega (arith, past))),
)
