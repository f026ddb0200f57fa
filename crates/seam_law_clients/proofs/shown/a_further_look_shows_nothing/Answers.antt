use Rattle.seam_law_clients.proofs.Prelude.{ap, ◌∙◌, after_all_shown, one_look, rows_of}
use Rattle.seam_law_clients.proofs.FurtherLooks.{none_shown, same_table}
use Rattle.seam_law_clients.proofs.shown.a_further_look_shows_nothing.Goals as goal

pub returns-clause-same : goal.returns-clause-same
returns-clause-same c w client view e = none_shown w client view e

pub returns-clause-table : goal.returns-clause-table
returns-clause-table c f u between room vs v run quiet =
    same_table f u between room vs v run quiet (c.the_last_phases_leave_places.ensures.looks f u between vs v run)

pub returns-clause-after : goal.returns-clause-after
returns-clause-after c f u between room vs v run quiet client view e =
    ap (one_look (after_all_shown client (one_look client e (rows_of u))) e)
    (same_table f u between room vs v run quiet (c.the_last_phases_leave_places.ensures.looks f u between vs v run))
    ∙ none_shown u client view e
