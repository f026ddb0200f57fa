use Rattle.std.proofs.Common.{ℕ, ◌<◌, get_or}
use Rattle.seam_rule_rounds.specs.Lines.{ClientLine}
use Rattle.seam_judge_data.specs.Standings.{standing_of}
use Rattle.seam_judge_rounds.specs.RoundClients.{AddsLines}
use Rattle.seam_judge_rounds.proofs.clients.are_told.Given as goal

abbrev pub invariant-loop-line : goal.invariant-loop-line
invariant-loop-line l =
    (k : ℕ) (d : ClientLine) → k < l.line-index →
    AddsLines (standing_of l.case.before.now) l.case.round.now (standing_of l.case.after.now) (get_or l.lines k d).entity
