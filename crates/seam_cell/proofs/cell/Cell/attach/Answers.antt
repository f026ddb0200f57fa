use Rattle.std.proofs.Common.{option_map}
use Rattle.std.specs.FinMap as table
use Rattle.seam_entity.specs.WitnessLooks.{with_witness}
use Rattle.seam_cell_parts.specs.Kept.{here_in}
use Rattle.seam_cell.proofs.LoadLemmas.{whole_or, witness_fits}
use Rattle.seam_cell_told.proofs.ToldAgain.{none_told}
use Rattle.seam_cell.proofs.cell.Cell.attach.Goals as goal

pub invariant_of-self : goal.invariant_of-self
invariant_of-self c =
    let old = c.self.inside in
    let h = here_in old.known in
    let e = c.args.e in
    let was = table.get old.reals.items.items e in (
      whole_or old.known old.reals c.give_witness.new.reals old.remotes old.lists e (option_map (with_witness h) was) c.give_witness.result
          c.self.invariant.0 c.give_witness.ensures.kept c.give_witness.ensures.after c.give_witness.ensures.err
          (witness_fits h old.known.bounds.tree e was
          (λ r at. (c.self.invariant.0.cell.cell.keys e r at, c.self.invariant.0.cell.there e r at))),
      none_told _ c.clear.new.self c.clear.ensures,
    )
