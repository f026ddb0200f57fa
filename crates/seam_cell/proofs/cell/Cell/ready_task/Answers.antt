use Rattle.std.proofs.Common.{◌≡◌, None, Some, ap, sym, option_copied, ◌∙◌}
use Rattle.std.specs.FinMap as table
use Rattle.seam_cell_cases.proofs.StepLemmas.{ready_at, runs}
use Rattle.seam_cell.proofs.cell.Cell.ready_task.Goals as goal

pub unreachable-requires : goal.unreachable-requires
unreachable-requires c =
    let ready = ready_at c.args.self.now c.args.e c.requires.ready in
    let at = ap (λ v. table.get v.reals c.args.e) c.self.view_is ∙ ready.at in
    let not : None ≡ Some ready.real = sym (ap option_copied c.in_default.is) ∙ (c.get.ensures.item ∙ at) in
    cc

pub run_ready-requires-clause-may : goal.run_ready-requires-clause-may
run_ready-requires-clause-may c =
    runs c.args.self.now c.args.e c.requires.ready c.parcel.inside.real.core
    (sym (ap (λ v. table.get v.reals c.args.e) c.self.view_is) ∙ (sym c.in-Some.ensures.item ∙ ap Some (sym c.parcel.view_is)))
    (sym c.may_execute.ensures ∙ c.if-not-may_execute.false)
