use Rattle.std.proofs.Common.{ℕ, ◌<◌, get_or, IsTrue}
use Rattle.seam_rule_rounds.specs.Prelude.{is_shown, ClientLine}
use Rattle.seam_judge_data.specs.Standings.{standing_of}
use Rattle.seam_judge_rounds.proofs.clients.are_of_clients.Given as goal

abbrev pub invariant-loop-line : goal.invariant-loop-line
invariant-loop-line l =
    (k : ℕ) (d : ClientLine) → k < l.line-index → IsTrue (is_shown (standing_of l.standing).book (get_or l.lines k d).entity)
