use Rattle.std.proofs.Common.{◌≡◌, ◌++◌, not, Bool, Some, sym, ap, ◌∙◌}
use Rattle.std.specs.FinMap as table
use Rattle.std.proofs.lemmas.Result.{on_ok_weaker, on_err_weaker, IfOk-weaker}
use Rattle.seam_node_steps.specs.Prelude.{From, Hand, CellView, stray_hand}
use Rattle.seam_cell_parts.specs.Kept.{cell_of}
use Rattle.seam_cell_cases.specs.Arriving.{arrives}
use Rattle.seam_cell_cases.proofs.StepLemmas.{whole_either}
use Rattle.seam_cell_told.proofs.ToldAgain.{none_told}
use Rattle.seam_cell.proofs.LoadLemmas.{comes_own}
use Rattle.seam_cell.proofs.cell.Cell.take_in.Goals as goal

pub invariant_of-self : goal.invariant_of-self
invariant_of-self c =
    let old = c.self.inside in
    let was = cell_of old.known old.reals old.remotes old.lists in (
      whole_either old.known old.reals c.arrive.new.reals old.remotes c.arrive.new.remotes old.lists old.lists
          (From 0 (Hand c.args.parcel (Some old.known.bounds))) c.arrive.result c.self.invariant.0 c.arrive.ensures.marks
          (on_ok_weaker c.arrive.result (λ e. e ∙ sym (ap (λ t. t.state) (comes_own was c.args.parcel))) (c.arrive.ensures.state old.lists))
          (c.arrive.ensures.err old.lists),
      none_told _ c.clear.new.self c.clear.ensures,
    )

pub returns-clause-state : goal.returns-clause-state
returns-clause-state c =
    on_ok_weaker c.arrive.result (λ e. e ∙ ap (λ v. (arrives v c.args.parcel).state) c.self.view_is)
    (c.arrive.ensures.state c.self.inside.lists)

pub returns-clause-sent : goal.returns-clause-sent
returns-clause-sent c =
    on_ok_weaker c.arrive.result (λ e. e ∙ ap (λ v. c.args.out.now.items ++ (arrives v c.args.parcel).sent) c.self.view_is)
    (c.arrive.ensures.sent c.self.inside.lists)

pub returns-clause-came : goal.returns-clause-came
returns-clause-came c =
    let r = c.args.parcel in
    let comes : CellView → Bool = λ v. not (stray_hand v.here v.tree r (table.get v.reals r.entity)) in
    let old = c.self.inside in
    IfOk-weaker c.arrive.result (λ b. b ≡ comes (cell_of old.known old.reals old.remotes old.lists)) (λ b. b ≡ comes c.args.self.now)
    (λ b e. e ∙ ap comes c.self.view_is) c.arrive.ensures.came

pub returns-clause-err : goal.returns-clause-err
returns-clause-err c = on_err_weaker c.arrive.result (λ e. e ∙ c.self.view_is) (c.arrive.ensures.err c.self.inside.lists)
