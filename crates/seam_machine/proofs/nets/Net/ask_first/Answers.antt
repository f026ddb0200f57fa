use Rattle.std.proofs.Common.{◌≡◌, ◌∙◌, Some, sym, ap, length, refl, arith, inl, inr}
use Rattle.std.specs.Prelude.{slice_get, option_map}
use Rattle.std.proofs.lemmas.Bool.{cases_lt}
use Rattle.std.proofs.lemmas.Option.{slice_get-map, slice_get_read}
use Rattle.seam_machine.proofs.Quiet.{task_first, quiet_without}
use Rattle.seam_machine.proofs.nets.Net.ask_first.Goals as goal

pub returns-then-has_task-clause-first : goal.returns-then-has_task-clause-first
returns-then-has_task-clause-first g c = task_first g.M.Machine.has_work c.args.self.now c.loop-k.k c.requires c.loop-k.invariant

pub loop-k-preserved : goal.loop-k-preserved
loop-k-preserved g c =
    let here = c.loop-k.k in
    let nodes = c.self.inside.nodes.items in
    let same = ap (λ w. w.nodes) c.self.view_is in
    let at : slice_get c.args.self.now.nodes here ≡ Some c.index.result.now =
    ap (λ n. slice_get n here) (sym same) ∙ slice_get_read nodes (length nodes) here c.index.result.now refl (omega arith) c.index.ensures
    in
    let off =
    slice_get-map g.M.Machine.has_work c.args.self.now.nodes here
    ∙ (ap (option_map g.M.Machine.has_work) at ∙ ap Some (sym c.has_task.ensures ∙ c.if-has_task.false)) in
    λ k lt. elim (cases_lt k here) [
      | inl before ↦ c.loop-k.invariant k before
      | inr past ↦ let last : k ≡ here = omega (arith, lt, past) in rw last off
    ]

pub returns-clause-none : goal.returns-clause-none
returns-clause-none g c =
    quiet_without g.M.Machine.has_work c.args.self.now c.requires
    (λ k lt. c.loop-k.invariant k (omega (arith, lt, c.loop-k-test.false, ap (λ w. length w.nodes) c.self.view_is)))
