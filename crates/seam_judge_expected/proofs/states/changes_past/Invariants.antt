use Rattle.std.proofs.Common.{◌≡◌, ◌-◌, ◌+◌, ◌<◌, map}
use Rattle.std.specs.Prelude.{filter}
use Rattle.std.specs.List.{range_with_len}
use Rattle.seam_rule_rounds.specs.FlatTable.{has_changed_at}
use Rattle.seam_judge_expected.proofs.states.changes_past.Given as goal

abbrev pub invariant-loop-v : goal.invariant-loop-v
invariant-loop-v l = (l.changes.items
    ≡ filter (has_changed_at l.header l.part l.create (map (λ x. x.now) l.order)) (range_with_len (l.version + 1) (l.v - l.version)))
    × (l.v-end < l.version → l.v ≡ l.version)
