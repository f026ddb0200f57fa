use Rattle.std.proofs.Common.{◌≡◌, sym, ap, subst, option_map, ◌∙◌}
use Rattle.std.proofs.lemmas.Option.{IfSome_then}
use Rattle.seam_node_steps.specs.Prelude.{after_taking, executed_ready, shows, settled}
use Rattle.seam_entity.specs.Executing.{with_order}
use Rattle.seam_cell_parts.specs.Kept.{here_in}
use Rattle.seam_cell_parts.specs.Stepping.{HasBegun, IsDone, parts_of, slot_in, core_of}
use Rattle.seam_cell_cases.proofs.CallLemmas.{after_is}
use Rattle.seam_cell_cases.proofs.ReadyLemmas.{Readied, readied, same_ready, ready_rises, task_is}
use Rattle.seam_cell_cases.proofs.tasks.execute_ready.Goals as goal

module _ (c : goal.After-settle_real-arg-2-1) where
  abbrev task : Readied c.args.real.core
  task = readied c.args.real.core c.requires.ready

  executed_is : c.execute_ready_after.new.self.core
      ≡ executed_ready (here_in c.args.known.now) c.args.real.core task.order task.call
  executed_is =
      let r = c.args.real.core in
      let q = c.begin_ready.new.real.core in
      c.execute_ready_after.ensures task.order task.call (same_ready r q task.order task.call c.in-Ok.ensures.same task.is)
      ∙ ap (λ x. with_order x task.order.0 (after_taking task.order.1))
      (after_is (here_in c.args.known.now) r q c.in-Ok.made.after task.call c.in-Ok.ensures.same
      (c.in-Ok.ensures.state task.order task.call task.is) (c.in-Ok.ensures.changed task.order task.call task.is))

pub settle_real-requires-clause-beat : goal.settle_real-requires-clause-beat
settle_real-requires-clause-beat c =
    let task = readied c.args.real.core c.requires.ready in
    (ready_rises (here_in c.args.known.now) c.args.real.core c.execute_ready_after.new.self.core task.order task.call c.requires.may
    (executed_is c)).beat

pub settle_real-requires-clause-generation : goal.settle_real-requires-clause-generation
settle_real-requires-clause-generation c =
    let task = readied c.args.real.core c.requires.ready in
    (ready_rises (here_in c.args.known.now) c.args.real.core c.execute_ready_after.new.self.core task.order task.call c.requires.may
    (executed_is c)).generation

pub settle_real-requires-clause-entity : goal.settle_real-requires-clause-entity
settle_real-requires-clause-entity c = c.in-Ok.ensures.entity ∙ ap (λ x. x.entity) (sym (executed_is c))

pub returns-clause-done : goal.returns-clause-done
returns-clause-done c =
    let h = here_in c.args.known.now in
    let t = c.args.known.now.bounds in
    let r = c.args.real.core in
    let q = c.begin_ready.new.real.core in
    let task = readied r c.requires.ready in
    let o = task.order in
    let k = task.call in
    let left = option_map core_of c.settle_real.result in
    let after = parts_of c.settle_real.new.remotes c.settle_real.new.out in
    let before = parts_of c.args.remotes.now c.args.out.now in
    let is : c.execute_ready_after.new.self.core ≡ executed_ready h r o k =
    c.execute_ready_after.ensures o k (same_ready r q o k c.in-Ok.ensures.same task.is)
    ∙ ap (λ x. with_order x o.0 (after_taking o.1))
    (after_is h r q c.in-Ok.made.after k c.in-Ok.ensures.same (c.in-Ok.ensures.state o k task.is) (c.in-Ok.ensures.changed o k task.is)) in
    let begun =
    subst (λ x. HasBegun h t x (shows h r k) before (parts_of c.begin_ready.new.remotes c.begin_ready.new.out) c.in-Ok.made.begun) (sym is)
    (c.in-Ok.ensures.begun o k task.is) in
    let done = c.settle_real.ensures.done h t (shows h r k) r before begun in
    subst (λ s. IsDone s r.entity r left before after) (sym (task_is h t (slot_in before r.entity r) r o k task.is))
    (subst (λ x. IsDone (settled h t (slot_in before x.entity r) x (shows h r k)) x.entity r left before after) is done)

pub returns-clause-witness : goal.returns-clause-witness
returns-clause-witness c =
    let h = here_in c.args.known.now in
    let r = c.args.real.core in
    let q = c.begin_ready.new.real.core in
    let task = readied r c.requires.ready in
    let o = task.order in
    let k = task.call in
    let is : c.execute_ready_after.new.self.core ≡ executed_ready h r o k =
    c.execute_ready_after.ensures o k (same_ready r q o k c.in-Ok.ensures.same task.is)
    ∙ ap (λ x. with_order x o.0 (after_taking o.1))
    (after_is h r q c.in-Ok.made.after k c.in-Ok.ensures.same (c.in-Ok.ensures.state o k task.is) (c.in-Ok.ensures.changed o k task.is)) in
    IfSome_then c.settle_real.result c.settle_real.ensures.witness (λ y same. same ∙ ap (λ x. x.witness) is)
