use Rattle.std.proofs.Common.{◌≡◌, ◌-◌, ◌+◌, ◌<◌, map}
use Rattle.std.specs.List.{range_with_len}
use Rattle.seam_rule_rounds.specs.FlatTable.{position_at}
use Rattle.seam_judge_expected.proofs.places.positions_past.Given as goal

abbrev pub invariant-loop-v : goal.invariant-loop-v
invariant-loop-v l =
    (l.positions.items ≡ map (position_at l.header l.create (map (λ x. x.now) l.order)) (range_with_len (l.version + 1) (l.v - l.version)))
    × (l.v-end < l.version → l.v ≡ l.version)
