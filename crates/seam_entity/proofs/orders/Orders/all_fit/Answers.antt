use Rattle.std.proofs.Common.{◌≡◌, true, sym, subst}
use Rattle.seam_entity.specs.ReadyCalls.{all_held}
use Rattle.seam_entity.specs.Executing.{fits_cell_part}
use Rattle.seam_entity.specs.Preparing.{node_with}
use Rattle.seam_entity.proofs.orders.Orders.all_fit.Goals as goal

pub returns-then-fits_all : goal.returns-then-fits_all
returns-then-fits_all c me =
    sym (subst (λ v. all_held (fits_cell_part (node_with c.args.defs.now me c.args.settings.now) c.args.entity c.args.ty) v.orders
    ≡ true) c.self.view_is (c.fits_all.ensures c.if-fits_all.true me _ c.self.invariant.1))
