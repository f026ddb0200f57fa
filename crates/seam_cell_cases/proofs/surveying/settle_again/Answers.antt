use Rattle.std.proofs.Common.{false, refl, sym}
use Rattle.seam_cell_parts.specs.Kept.{here_in}
use Rattle.seam_cell_parts.specs.Stepping.{parts_of}
use Rattle.seam_cell_cases.proofs.surveying.settle_again.Goals as goal

pub returns-clause-done : goal.returns-clause-done
returns-clause-done c =
    let r = c.args.real.core in
    c.settle_real.ensures.done (here_in c.args.known.now) c.args.known.now.bounds false r (parts_of c.args.remotes.now c.args.out.now)
    (c.in-Ok.ensures.begun r (record { entity = refl; haunts = refl; beat = refl }) (sym c.ty.ensures)
    (sym c.public_version.ensures) (sym c.state-state.ensures))
