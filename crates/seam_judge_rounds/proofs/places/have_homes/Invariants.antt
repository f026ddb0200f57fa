use Rattle.std.proofs.Common.{ℕ, ◌<◌, get_or}
use Rattle.seam_rule_rounds.specs.Prelude.{cells_of, tree_of}
use Rattle.seam_judge_data.specs.Standings.{standing_of}
use Rattle.seam_judge_data.specs.declared.standing.Held.{Held}
use Rattle.seam_judge_rounds.proofs.places.have_homes.Given as goal

abbrev pub invariant-loop-held : goal.invariant-loop-held
invariant-loop-held l =
    (k : ℕ) (d : Held) → k < l.held-index →
    ((standing_of l.before).places (get_or l.before.places.items k d).entity).home < cells_of (tree_of (standing_of l.before).book)
