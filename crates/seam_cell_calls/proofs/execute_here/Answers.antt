use Rattle.std.proofs.Common.{◌≡◌, ◌++◌, OnOk, OnErr, ap, option_map, ◌∙◌}
use Rattle.std.proofs.lemmas.Result.{on_ok_weaker, on_err_weaker}
use Rattle.seam_node_steps.specs.Prelude.{set_at}
use Rattle.std.specs.FinMap as table
use Rattle.seam_cell_parts.specs.Kept.{cell_of}
use Rattle.seam_cell_parts.specs.Stepping.{core_of}
use Rattle.seam_cell_cases.proofs.StepLemmas.{both_err, undone, turn_left, CallLeaves}
use Rattle.seam_cell_calls.proofs.execute_here.Goals as goal

pub execute_turn-called-requires-clause-there : goal.execute_turn-called-requires-clause-there
execute_turn-called-requires-clause-there c = c.requires.whole.cell.there c.args.call.entity c.in-Ok.real.core c.in-Ok.ensures.real

module _ (c : goal.After-put_after) where
  items : c.put_after.new.reals.items.items
      ≡ set_at (table.remove c.args.reals.now.items.items c.args.call.entity) c.args.call.entity
      (option_map core_of c.execute_turn-called.result.left)
  items =
      c.put_after.ensures.items
      ∙ ap (λ w. set_at w c.args.call.entity (option_map core_of c.execute_turn-called.result.left)) c.in-Ok.ensures.items

  leaves : OnOk c.execute_turn-called.result.result
      (CallLeaves (cell_of c.args.known.now c.args.reals.now c.args.remotes.now c.args.lists.now)
      (cell_of c.args.known.now c.put_after.new.reals c.execute_turn-called.new.remotes c.put_after.new.lists) c.args.call
      c.args.out.now.items c.execute_turn-called.new.out.items)
  leaves =
      let called = c.execute_turn-called in
      on_ok_weaker called.result.result
      (λ done. turn_left c.args.known.now c.args.reals.now c.put_after.new.reals c.args.remotes.now called.new.remotes c.args.lists.now
      c.put_after.new.lists c.args.out.now called.new.out c.args.call c.in-Ok.real.core (option_map core_of called.result.left)
      c.in-Ok.ensures.real items c.put_after.ensures.survey c.put_after.ensures.looks c.requires.whole c.requires.may c.requires.turn
      done)
      called.ensures.done

pub returns-clause-state : goal.returns-clause-state
returns-clause-state c from = on_ok_weaker c.execute_turn-called.result.result (λ is. is.state from) (leaves c)

pub returns-clause-sent : goal.returns-clause-sent
returns-clause-sent c from = on_ok_weaker c.execute_turn-called.result.result (λ is. is.sent from) (leaves c)

pub returns-clause-err : goal.returns-clause-err
returns-clause-err c =
    let called = c.execute_turn-called in
    on_err_weaker called.result.result
    (λ both. undone c.args.known.now c.args.reals.now c.put_after.new.reals c.args.remotes.now called.new.remotes c.args.lists.now
    c.put_after.new.lists c.args.out.now called.new.out c.args.call.entity c.in-Ok.real.core (option_map core_of called.result.left)
    c.in-Ok.ensures.real (items c) c.put_after.ensures.survey c.put_after.ensures.looks both.0 both.1)
    (both_err _ _ called.result.result called.ensures.err called.ensures.err_parts)
