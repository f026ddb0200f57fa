use Rattle.std.proofs.Common.{sym, subst}
use Rattle.seam_rule_lines.specs.Round.{Lists}
use Rattle.seam_judge_data.specs.Standings.{standing_of}
use Rattle.seam_judge_expected.proofs.ListedLemmas.{if_ok}
use Rattle.seam_judge_rounds.specs.RoundClients.{client_as}
use Rattle.seam_judge_rounds.proofs.ClientLists.{lists_known}
use Rattle.seam_judge_rounds.proofs.case.clients_among.Goals as goal

pub returns : goal.returns
returns c = if_ok c.shown_among.result
    (λ clients is. subst (Lists (client_as (standing_of c.args.standing.now).book)) (sym is)
    (lists_known (standing_of c.args.standing.now).book c.args.made.now c.requires))
    c.shown_among.ensures
