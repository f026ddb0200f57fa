use Rattle.std.proofs.Common.{◌≡◌, ◌++◌, true, ap, sym, subst, ◌∙◌}
use Rattle.std.proofs.lemmas.Result.{on_ok_weaker, on_err_weaker}
use Rattle.seam_node_steps.specs.Prelude.{From, cell_steps}
use Rattle.seam_entity.specs.declared.message.Msg.TheVariants.{Call}
use Rattle.seam_cell_cases.specs.Calling.{is_called, IsTurn}
use Rattle.seam_cell_cases.proofs.StepLemmas.{whole_either}
use Rattle.seam_cell_told.proofs.ToldAgain.{none_told}
use Rattle.seam_cell.proofs.cell.Cell.execute_call.Goals as goal

pub execute_here-requires-clause-may : goal.execute_here-requires-clause-may
execute_here-requires-clause-may c = subst (λ v. is_called v c.args.call ≡ true) (sym c.self.view_is) c.requires.may

pub execute_here-requires-clause-turn : goal.execute_here-requires-clause-turn
execute_here-requires-clause-turn c = subst (λ v. IsTurn v c.args.call) (sym c.self.view_is) c.requires.turn

pub invariant_of-self : goal.invariant_of-self
invariant_of-self c =
    let old = c.self.inside in
    let new = c.execute_here.new in (
      whole_either old.known old.reals new.reals old.remotes new.remotes old.lists new.lists
          (From 0 (Call c.args.call)) c.execute_here.result
          c.self.invariant.0 c.execute_here.ensures.marks (c.execute_here.ensures.state 0) c.execute_here.ensures.err,
      none_told _ c.clear.new.self c.clear.ensures,
    )

pub returns-clause-state : goal.returns-clause-state
returns-clause-state c from =
    on_ok_weaker c.execute_here.result (λ e. e ∙ ap (λ v. (cell_steps v (From from (Call c.args.call))).state) c.self.view_is)
    (c.execute_here.ensures.state from)

pub returns-clause-sent : goal.returns-clause-sent
returns-clause-sent c from =
    on_ok_weaker c.execute_here.result
    (λ e. e ∙ ap (λ v. c.args.out.now.items ++ (cell_steps v (From from (Call c.args.call))).sent) c.self.view_is)
    (c.execute_here.ensures.sent from)

pub returns-clause-err : goal.returns-clause-err
returns-clause-err c = on_err_weaker c.execute_here.result (λ e. e ∙ c.self.view_is) c.execute_here.ensures.err
