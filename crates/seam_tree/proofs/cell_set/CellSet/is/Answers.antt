use Rattle.std.proofs.Common.{sym, ap, ◌∙◌, eq-eqb, eqb-true}
use Rattle.seam_tree.specs.Marks.{marked, digits_of}
use Rattle.seam_tree.specs.Inverse.{digits_of_marked}
use Rattle.seam_tree.proofs.cell_set.CellSet.is.Goals as goal

pub returns : goal.returns
returns c =
    let mine = c.self.inside.digits in
    let others = c.other.inside.digits in (
      (λ same. sym c.self.view_is ∙ ap marked (eqb-true mine others same) ∙ c.other.view_is),
      (λ same. eq-eqb mine others
          (sym (digits_of_marked mine c.self.invariant)
          ∙ ap (λ s. digits_of s 16) (c.self.view_is ∙ same ∙ sym c.other.view_is)
          ∙ digits_of_marked others c.other.invariant)),
    )
