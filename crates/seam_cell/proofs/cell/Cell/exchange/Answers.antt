use Rattle.std.proofs.Common.{sym, subst, ap, ◌∙◌}
use Rattle.seam_node_steps.specs.Prelude.{IsTree, CellView, boundaries_of}
use Rattle.seam_cell_parts.specs.Kept.{cell_of}
use Rattle.seam_cell_told.proofs.ToldAgain.{none_told}
use Rattle.seam_cell.proofs.LoadLemmas.{bounds_whole}
use Rattle.seam_cell.proofs.cell.Cell.exchange.Goals as goal

pub invariant_of-self : goal.invariant_of-self
invariant_of-self c =
    let old = c.self.inside in
    let b = c.args.bounds in (
      bounds_whole old.known b _ old.reals old.remotes old.lists _ c.replace-old.ensures.after c.self.invariant.0
          (subst IsTree c.get.ensures c.size.ensures.tree) (c.requires ∙ ap (λ v. v.here.settings.size) (sym c.self.view_is)),
      none_told _ c.clear.new.self c.clear.ensures,
    )

pub returns-clause-after : goal.returns-clause-after
returns-clause-after c =
    let old = c.self.inside in
    let was = cell_of old.known old.reals old.remotes old.lists in
    (λ i. record was {
      tree = (c.replace-old.ensures.after i).tree;
      number = (c.replace-old.ensures.after i).number;
      survey = c.replace-was.ensures.after i;
    })
    ∙ ap (λ (v : CellView). record v { tree = c.args.bounds.tree; number = c.args.bounds.number; survey = c.args.survey }) c.self.view_is

pub returns-clause-bounds : goal.returns-clause-bounds
returns-clause-bounds c = c.replace-old.ensures.value ∙ ap boundaries_of c.self.view_is

pub returns-clause-survey : goal.returns-clause-survey
returns-clause-survey c = c.replace-was.ensures.value ∙ ap (λ v. v.survey) c.self.view_is

pub returns-clause-size : goal.returns-clause-size
returns-clause-size c =
    ap (λ b. b.tree.size) c.replace-old.ensures.value ∙ (c.self.invariant.0.cell.size ∙ ap (λ v. v.here.settings.size) c.self.view_is)
