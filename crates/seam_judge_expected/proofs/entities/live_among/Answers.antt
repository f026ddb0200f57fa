use Rattle.std.proofs.Common.{sym, subst, ℕ}
use Rattle.std.specs.List.{list_any}
use Rattle.seam_rule_rounds.specs.Prelude.{created_as, entries, live_as, destroys, Lists}
use Rattle.seam_judge_data.specs.Standings.{standing_of}
use Rattle.seam_judge_expected.proofs.ListedLemmas.{lists_living, if_ok}
use Rattle.seam_judge_expected.proofs.entities.live_among.Goals as goal

pub returns : goal.returns
returns c = if_ok c.living.result
    (λ live is. subst (Lists (live_as (standing_of c.args.standing.now).book)) (sym is)
    (lists_living (created_as (standing_of c.args.standing.now).book)
    (λ (e : ℕ). list_any (destroys e) (entries (standing_of c.args.standing.now).book)) c.args.made.now c.requires))
    c.living.ensures
