use Rattle.std.proofs.Common.{◌≡◌, [], ℕ, ◌<◌, get_or}
use Rattle.seam_rule_rounds.specs.Prelude.{Create, one_look, replica_of}
use Rattle.seam_judge_data.specs.Standings.{standing_of}
use Rattle.seam_judge_rounds.proofs.looked.show_nothing.Given as goal

abbrev pub invariant-loop-create : goal.invariant-loop-create
invariant-loop-create l =
    (k : ℕ) (d : Create) → k < l.create-index →
    one_look (replica_of l.header (standing_of l.standing) (get_or l.clients k d).entity) (get_or l.clients k d).entity l.rows ≡ []
