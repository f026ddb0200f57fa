use Rattle.std.proofs.Common.{Some, sym, subst}
use Rattle.seam_node_steps.specs.Prelude.{IsInSpace, created}
use Rattle.seam_cell_parts.specs.Kept.{here_in}
use Rattle.seam_cell.proofs.LoadLemmas.{whole_or, created_fits}
use Rattle.seam_cell_told.proofs.ToldAgain.{none_told}
use Rattle.seam_cell.proofs.cell.Cell.add_entity.Goals as goal

pub invariant_of-self : goal.invariant_of-self
invariant_of-self c =
    let old = c.self.inside in
    let made = c.args.create in
    let h = here_in old.known in (
      whole_or old.known old.reals c.make_real.new.reals old.remotes old.lists made.entity (Some (created h made.entity made.ty made.pos))
          c.make_real.result c.self.invariant.0 c.make_real.ensures.kept c.make_real.ensures.after c.make_real.ensures.err
          (created_fits h old.known.bounds.tree made.entity made.ty made.pos
          (subst (λ v. IsInSpace v.tree made.pos) (sym c.self.view_is) c.requires.inside)),
      none_told _ c.clear.new.self c.clear.ensures,
    )
