use Rattle.std.proofs.Common.{◌≡◌, true, ap, sym, subst, ◌∙◌}
use Rattle.std.specs.FinMap as table
use Rattle.std.proofs.lemmas.Result.{on_ok_weaker, on_err_weaker}
use Rattle.seam_node_steps.specs.Prelude.{From, cell_steps}
use Rattle.seam_entity.specs.declared.message.Msg.TheVariants.{Call}
use Rattle.seam_cell_parts.specs.Kept.{AreWhole}
use Rattle.seam_cell_cases.specs.Calling.{is_called, IsTurn}
use Rattle.seam_cell_cases.proofs.StepLemmas.{by_result, whole_after, whole_again, held_sends, held_left, held_not}
use Rattle.seam_cell_told.proofs.ToldAgain.{none_told}
use Rattle.seam_cell.proofs.cell.Cell.hold_call.Goals as goal

pub returns-in_default-clause-sent : goal.returns-in_default-clause-sent
returns-in_default-clause-sent c = held_sends c.args.self.now c.args.call c.requires.may c.requires.not_turn

pub returns-clause-sent : goal.returns-clause-sent
returns-clause-sent c = held_sends c.args.self.now c.args.call c.requires.may c.requires.not_turn

pub invariant_of-self-2 : goal.invariant_of-self-2
invariant_of-self-2 c =
    let old = c.self.inside in
    let held = c.hold-held.result in
    let s = c.put_in.new.reals in
    let k = c.args.call in
    let items =
    c.put_in.ensures.items ∙ ap (λ w. table.insert w k.entity held.real.core) c.in-Ok.ensures.items in
    let may = subst (λ v. is_called v k ≡ true) (sym c.self.view_is) c.requires.may in
    let not_turn = subst (λ v. IsTurn v k → ⊥) (sym c.self.view_is) c.requires.not_turn in (
      by_result held.result (AreWhole old.known s old.remotes old.lists)
          (on_ok_weaker held.result
          (λ is. whole_after old.known old.reals s old.remotes old.remotes old.lists old.lists (From 0 (Call k)) c.self.invariant.0
          c.put_in.ensures.kept
          (held_left old.known old.reals s old.remotes old.lists k c.in-Ok.real.core held.real.core c.in-Ok.ensures.real items may
          not_turn is 0))
          c.hold-held.ensures.after)
          (on_err_weaker held.result
          (λ is. whole_again old.known old.reals s old.remotes old.remotes old.lists old.lists c.self.invariant.0 c.put_in.ensures.kept
          (held_not old.known old.reals s old.remotes old.lists k.entity c.in-Ok.real.core held.real.core c.in-Ok.ensures.real items is))
          c.hold-held.ensures.err),
      none_told _ c.clear.new.self c.clear.ensures,
    )

pub returns-clause-state : goal.returns-clause-state
returns-clause-state c from =
    let old = c.self.inside in
    let held = c.hold-held.result in
    let s = c.put_in.new.reals in
    let k = c.args.call in
    let items =
    c.put_in.ensures.items ∙ ap (λ w. table.insert w k.entity held.real.core) c.in-Ok.ensures.items in
    let may = subst (λ v. is_called v k ≡ true) (sym c.self.view_is) c.requires.may in
    let not_turn = subst (λ v. IsTurn v k → ⊥) (sym c.self.view_is) c.requires.not_turn in
    on_ok_weaker held.result
    (λ is. held_left old.known old.reals s old.remotes old.lists k c.in-Ok.real.core held.real.core c.in-Ok.ensures.real items may not_turn
    is from
    ∙ ap (λ v. (cell_steps v (From from (Call k))).state) c.self.view_is)
    c.hold-held.ensures.after

pub returns-clause-err : goal.returns-clause-err
returns-clause-err c =
    let old = c.self.inside in
    let held = c.hold-held.result in
    let k = c.args.call in
    let items =
    c.put_in.ensures.items ∙ ap (λ w. table.insert w k.entity held.real.core) c.in-Ok.ensures.items in
    on_err_weaker held.result
    (λ is. held_not old.known old.reals c.put_in.new.reals old.remotes old.lists k.entity c.in-Ok.real.core held.real.core
    c.in-Ok.ensures.real items is
    ∙ c.self.view_is)
    c.hold-held.ensures.err
