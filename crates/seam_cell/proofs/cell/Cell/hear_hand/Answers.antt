use Rattle.std.proofs.Common.{◌++◌, refl, sym, ap, ◌∙◌}
use Rattle.std.proofs.lemmas.Result.{on_ok_weaker}
use Rattle.seam_node_steps.specs.Prelude.{From, Hand, cell_steps}
use Rattle.seam_cell.proofs.cell.Cell.hear_hand.Goals as goal

pub hear_newer-requires : goal.hear_newer-requires
hear_newer-requires c = c.in-Some.ensures.some.1

pub hear_known-requires : goal.hear_known-requires
hear_known-requires c = c.in-None.ensures.none refl

pub returns-in-Some-clause-state : goal.returns-in-Some-clause-state
returns-in-Some-clause-state c from =
    on_ok_weaker c.hear_newer.result
    (λ e. e ∙ ap (λ o. (cell_steps c.args.self.now (From from (Hand c.args.parcel o))).state) (sym c.in-Some.ensures.some.0))
    (c.hear_newer.ensures.state from)

pub returns-in-Some-clause-sent : goal.returns-in-Some-clause-sent
returns-in-Some-clause-sent c from =
    on_ok_weaker c.hear_newer.result
    (λ e. e
    ∙ ap (λ o. c.args.out.now.items ++ (cell_steps c.args.self.now (From from (Hand c.args.parcel o))).sent)
    (sym c.in-Some.ensures.some.0))
    (c.hear_newer.ensures.sent from)
