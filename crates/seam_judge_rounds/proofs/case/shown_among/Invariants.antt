use Rattle.std.proofs.Common.{◌≡◌, take}
use Rattle.std.specs.Prelude.{filter}
use Rattle.seam_judge_rounds.specs.RoundClients.{is_known}
use Rattle.seam_judge_data.specs.Standings.{standing_of}
use Rattle.seam_judge_rounds.proofs.case.shown_among.Given as goal

abbrev pub invariant-loop-create : goal.invariant-loop-create
invariant-loop-create l =
    l.clients.items ≡ filter (λ x. is_known (standing_of l.standing).book x.entity) (take l.create-index l.made)
