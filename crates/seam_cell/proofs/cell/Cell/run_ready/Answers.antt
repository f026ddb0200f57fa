use Rattle.std.proofs.Common.{◌≡◌, ◌++◌, true, Some, OnOk, OnErr, ap, sym, option_map, ◌∙◌}
use Rattle.std.specs.FinMap as table
use Rattle.std.proofs.lemmas.Result.{on_ok_weaker, on_err_weaker}
use Rattle.seam_node_steps.specs.Prelude.{Task, has_ready, may_execute, set_at, CellView, cell_steps, ready_entity}
use Rattle.seam_cell_parts.specs.Kept.{cell_of, AreWhole}
use Rattle.seam_cell_cases.specs.Calling.{may_run}
use Rattle.seam_cell_parts.specs.Stepping.{core_of}
use Rattle.seam_entity.proofs.HeldLemmas.{both}
use Rattle.seam_cell_cases.proofs.StepLemmas.{by_result, both_err, whole_after, whole_again, undone, ready_left, TaskLeaves}
use Rattle.seam_cell_told.proofs.ToldAgain.{none_told}
use Rattle.seam_cell.proofs.cell.Cell.run_ready.Goals as goal

pub execute_ready-tasked-requires-clause-there : goal.execute_ready-tasked-requires-clause-there
execute_ready-tasked-requires-clause-there c =
    c.self.invariant.0.cell.there c.args.e c.in_ok-real.real.core c.in_ok-real.ensures.real

module _ (c : goal.After-put_after) where
  abbrev items : c.put_after.new.reals.items.items
      ≡ set_at (table.remove c.self.inside.reals.items.items c.args.e) c.args.e (option_map core_of c.execute_ready-tasked.result.left)
  items =
      c.put_after.ensures.items
      ∙ ap (λ w. set_at w c.args.e (option_map core_of c.execute_ready-tasked.result.left)) c.in_ok-real.ensures.items

  abbrev new : CellView
  new = cell_of c.self.inside.known c.put_after.new.reals c.execute_ready-tasked.new.remotes c.put_after.new.lists

  abbrev old : CellView
  old = cell_of c.self.inside.known c.self.inside.reals c.self.inside.remotes c.self.inside.lists

  may : may_execute c.in_ok-real.real.core ≡ true
  may =
      let x = c.in_ok-real.real.core in
      let run : may_run (Some x) ≡ true =
      sym (ap may_run c.in_ok-real.ensures.real)
      ∙ (ap (λ v. may_run (table.get v.reals c.args.e)) c.self.view_is ∙ c.requires.may) in
      (both (may_execute x) (has_ready x.orders) run).0

  leaves : OnOk c.execute_ready-tasked.result.result
      (TaskLeaves old new c.args.out.now.items c.execute_ready-tasked.new.out.items)
  leaves =
      let was = c.self.inside in
      let surveyed = ap (λ v. v.survey) c.self.view_is ∙ c.requires.surveyed in
      let ready = ap ready_entity c.self.view_is ∙ c.requires.ready in
      on_ok_weaker c.execute_ready-tasked.result.result
      (λ done. ready_left was.known was.reals c.put_after.new.reals was.remotes c.execute_ready-tasked.new.remotes was.lists
      c.put_after.new.lists c.args.out.now c.execute_ready-tasked.new.out c.args.e c.in_ok-real.real.core
      (option_map core_of c.execute_ready-tasked.result.left) c.in_ok-real.ensures.real items c.put_after.ensures.survey
      c.put_after.ensures.looks c.self.invariant.0 surveyed ready may done)
      c.execute_ready-tasked.ensures.done

  rests : OnErr c.execute_ready-tasked.result.result (new ≡ old)
  rests =
      let was = c.self.inside in
      on_err_weaker c.execute_ready-tasked.result.result
      (λ both. undone was.known was.reals c.put_after.new.reals was.remotes c.execute_ready-tasked.new.remotes was.lists
      c.put_after.new.lists c.args.out.now c.execute_ready-tasked.new.out c.args.e c.in_ok-real.real.core
      (option_map core_of c.execute_ready-tasked.result.left) c.in_ok-real.ensures.real items c.put_after.ensures.survey
      c.put_after.ensures.looks both.0 both.1)
      (both_err _ _ c.execute_ready-tasked.result.result c.execute_ready-tasked.ensures.err c.execute_ready-tasked.ensures.err_parts)

pub invariant_of-self-2 : goal.invariant_of-self-2
invariant_of-self-2 c =
    let was = c.self.inside in
    let s = c.put_after.new.reals in
    let q = c.execute_ready-tasked.new.remotes in
    let m = c.put_after.new.lists in
    let kept = c.put_after.ensures.kept in (
      by_result c.execute_ready-tasked.result.result (AreWhole was.known s q m)
          (on_ok_weaker c.execute_ready-tasked.result.result
          (λ is. whole_after was.known was.reals s was.remotes q was.lists m Task c.self.invariant.0 kept is.state) (leaves c))
          (on_err_weaker c.execute_ready-tasked.result.result
          (λ is. whole_again was.known was.reals s was.remotes q was.lists m c.self.invariant.0 kept is) (rests c)),
      none_told _ c.clear.new.self c.clear.ensures,
    )

pub returns-clause-state : goal.returns-clause-state
returns-clause-state c =
    on_ok_weaker c.execute_ready-tasked.result.result (λ is. is.state ∙ ap (λ v. (cell_steps v Task).state) c.self.view_is) (leaves c)

pub returns-clause-sent : goal.returns-clause-sent
returns-clause-sent c =
    on_ok_weaker c.execute_ready-tasked.result.result
    (λ is. is.sent ∙ ap (λ v. c.args.out.now.items ++ (cell_steps v Task).sent) c.self.view_is) (leaves c)

pub returns-clause-err : goal.returns-clause-err
returns-clause-err c = on_err_weaker c.execute_ready-tasked.result.result (λ is. is ∙ c.self.view_is) (rests c)
