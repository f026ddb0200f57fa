use Rattle.std.proofs.Common.{ℕ, ◌<◌, get_or}
use Rattle.seam_rule_rounds.specs.Prelude.{Create, ShowsClient}
use Rattle.seam_judge_data.specs.Standings.{standing_of}
use Rattle.seam_judge_rounds.proofs.clients.show_each.Given as goal

abbrev pub invariant-loop-create : goal.invariant-loop-create
invariant-loop-create l =
    (k : ℕ) (d : Create) → k < l.create-index →
    ShowsClient l.case.header.now (standing_of l.case.before.now) l.case.round.now (standing_of l.case.after.now) (get_or l.clients k d)
