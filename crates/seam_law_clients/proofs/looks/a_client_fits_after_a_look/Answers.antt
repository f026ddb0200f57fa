use Rattle.seam_law_clients.proofs.Prelude.{Some, List, sym, subst, Shown, RealView, WitnessView, looks_of, shown_of, after_looking}
use Rattle.seam_law_clients.proofs.Prelude.{known_to, rows_of, FitsWitness, after_all_shown, one_look}
use Rattle.seam_law_clients.proofs.After.{look_fits}
use Rattle.seam_law_clients.proofs.looks.a_client_fits_after_a_look.Goals as goal

pub returns : goal.returns
returns c f w between copies placed reach e k r at v client fits cell node after is =
    let now : WitnessView =
    after_looking (known_to cell e) (looks_of r v (known_to cell e)) (shown_of cell.here r v (known_to cell e)) r v in
    let with : WitnessView → RealView = λ x. record r { witness = Some x } in
    let told : FitsWitness f w (with now) now (after_all_shown client (shown_of cell.here r v (known_to cell e))) =
    look_fits f w between copies c.others_see_the_ghost.ensures.by_ghost e k r v cell node c.versions_shown_never_fall.ensures.view client
    fits in
    let shown : FitsWitness f w (with now) now (after_all_shown client (one_look client e (rows_of w))) =
    subst (λ (lines : List Shown). FitsWitness f w (with now) now (after_all_shown client lines))
    (c.a_look_is_one_look_at_the_table.ensures f w between copies placed reach e k r at v client fits cell node) told in
    subst (λ (x : WitnessView). FitsWitness f w (with x) x (after_all_shown client (one_look client e (rows_of w)))) (sym is) shown
