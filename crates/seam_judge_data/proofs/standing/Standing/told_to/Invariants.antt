use Rattle.std.proofs.Common.{◌≡◌, take, map}
use Rattle.std.specs.Prelude.{filter, ◌==◌}
use Rattle.seam_judge_data.proofs.standing.Standing.told_to.Given as goal

abbrev pub invariant-loop-line : goal.invariant-loop-line
invariant-loop-line l =
    map (λ x. x.now) l.lines.items ≡ map (λ x. x.line) (filter (λ x. x.entity == l.entity) (take l.line-index l.self.told.items))
