use Rattle.std.proofs.Common.{◌≡◌, sym, ap, subst, option_map, ◌∙◌}
use Rattle.seam_node_steps.specs.Prelude.{executed, shows, with_offer, settled}
use Rattle.seam_cell_parts.specs.Kept.{here_in}
use Rattle.seam_cell_parts.specs.Stepping.{HasBegun, IsDone, parts_of, slot_in, core_of}
use Rattle.seam_cell_cases.proofs.CallLemmas.{CanCall, can_call, after_is, executed_rises}
use Rattle.seam_cell_cases.proofs.calls.execute_turn.Goals as goal

can : (c : goal.After-real-2-1) → CanCall c.begin_call.new.real.core c.args.turn.call
can c = can_call (here_in c.args.known.now) c.args.turn.real.core c.begin_call.new.real.core c.args.turn.call c.requires.may
    c.in-Ok.ensures.same

pub execute_after-requires-clause-from_one : goal.execute_after-requires-clause-from_one
execute_after-requires-clause-from_one c = (can c).from_one

pub execute_after-requires-clause-small : goal.execute_after-requires-clause-small
execute_after-requires-clause-small c = (can c).small

pub execute_after-requires-clause-version : goal.execute_after-requires-clause-version
execute_after-requires-clause-version c = (can c).real.version

pub execute_after-requires-clause-not_held : goal.execute_after-requires-clause-not_held
execute_after-requires-clause-not_held c = (can c).not_held

executed_is : (c : goal.After-settle_real-arg-2-1) →
    c.execute_after.new.self.core ≡ executed (here_in c.args.known.now) c.args.turn.real.core c.args.turn.call
executed_is c =
    c.execute_after.ensures
    ∙ ap (λ x. with_offer x c.args.turn.call)
    (after_is (here_in c.args.known.now) c.args.turn.real.core c.begin_call.new.real.core c.in-Ok.made.after c.args.turn.call
    c.in-Ok.ensures.same c.in-Ok.ensures.state c.in-Ok.ensures.changed)

pub settle_real-requires-clause-beat : goal.settle_real-requires-clause-beat
settle_real-requires-clause-beat c =
    (executed_rises (here_in c.args.known.now) c.args.turn.real.core c.execute_after.new.self.core c.args.turn.call c.requires.may
    (executed_is c)).beat

pub settle_real-requires-clause-generation : goal.settle_real-requires-clause-generation
settle_real-requires-clause-generation c =
    (executed_rises (here_in c.args.known.now) c.args.turn.real.core c.execute_after.new.self.core c.args.turn.call c.requires.may
    (executed_is c)).generation

pub settle_real-requires-clause-entity : goal.settle_real-requires-clause-entity
settle_real-requires-clause-entity c = ap (λ x. x.entity) (c.in-Ok.ensures.begun.telling) ∙ ap (λ x. x.entity) (sym (executed_is c))

pub returns-clause-done : goal.returns-clause-done
returns-clause-done c =
    let h = here_in c.args.known.now in
    let t = c.args.known.now.bounds in
    let r = c.args.turn.real.core in
    let k = c.args.turn.call in
    let left = option_map core_of c.settle_real.result in
    let after = parts_of c.settle_real.new.remotes c.settle_real.new.out in
    let before = parts_of c.args.remotes.now c.args.out.now in
    let is : c.execute_after.new.self.core ≡ executed h r k =
    c.execute_after.ensures
    ∙ ap (λ x. with_offer x k)
    (after_is h r c.begin_call.new.real.core c.in-Ok.made.after k c.in-Ok.ensures.same c.in-Ok.ensures.state c.in-Ok.ensures.changed)
    in
    let begun =
    subst (λ x. HasBegun h t x (shows h r k) before (parts_of c.begin_call.new.remotes c.begin_call.new.out) c.in-Ok.made.begun) (sym is)
    c.in-Ok.ensures.begun in
    let done = c.settle_real.ensures.done h t (shows h r k) r before begun in
    subst (λ x. IsDone (settled h t (slot_in before x.entity r) x (shows h r k)) x.entity r left before after) is done
