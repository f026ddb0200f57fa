use Rattle.seam_law_clients.proofs.Prelude.{◌++◌, refl, ap, ◌∙◌, slice_get, entity_flow, home_of, shown_at}
use Rattle.seam_law_clients.proofs.ShownOnce.{cell_at, shown_until, shown_once}
use Rattle.seam_law_clients.proofs.shown.each_client_is_shown_one_look.Goals as goal

pub returns-clause-until : goal.returns-clause-until
returns-clause-until c f u between parts small copies placed reach room clients fit vs v run e k r here x seen =
    let cell = cell_at e k u r (slice_get u.nodes k) refl here in
    let part = shown_until f u between parts small room e k r here x seen cell.0 cell.1 vs v run in (
      part.0,
      part.1 ∙ ap (λ l. shown_at ((entity_flow e u).slot (home_of f e)) ++ l)
          (c.a_look_is_one_look_at_the_table.ensures f u between copies placed reach e k r here x (clients e)
          (fit.each e k r here x seen) cell.0 cell.1),
    )

pub returns-clause-all : goal.returns-clause-all
returns-clause-all c f u between parts small copies placed reach room clients fit vs v run quiet e k r here x seen =
    let cell = cell_at e k u r (slice_get u.nodes k) refl here in
    shown_once f u between parts small room e k r here x seen cell.0 cell.1 vs v run quiet
    ∙ ap (λ l. shown_at ((entity_flow e u).slot (home_of f e)) ++ l)
    (c.a_look_is_one_look_at_the_table.ensures f u between copies placed reach e k r here x (clients e) (fit.each e k r here x seen) cell.0
    cell.1)
