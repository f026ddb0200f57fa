use Rattle.std.proofs.Common.{◌≡◌, take}
use Rattle.std.specs.Prelude.{filter, not}
use Rattle.std.specs.List.{list_any}
use Rattle.seam_rule_lines.specs.Book.{entries, destroys}
use Rattle.seam_judge_data.specs.Standings.{standing_of}
use Rattle.seam_judge_expected.proofs.entities.living.Given as goal

abbrev pub invariant-loop-create : goal.invariant-loop-create
invariant-loop-create l = l.live.items
    ≡ filter (λ x. not (list_any (destroys x.entity) (entries (standing_of l.standing).book))) (take l.create-index l.made)
