use Rattle.std.proofs.Common.{refl, ap, Some}
use Rattle.seam_cell_parts.specs.Stepping.{parts_of}
use Rattle.seam_cell_parts.proofs.SettleLemmas.{equal_test, other_test, stay_done, leave_done}
use Rattle.seam_cell_parts.proofs.settle.settle_real.Goals as goal

pub returns-then-begun-clause-done : goal.returns-then-begun-clause-done
returns-then-begun-clause-done c h t changed was before begun =
    let parts = parts_of c.args.remotes.now c.args.out.now in
    stay_done h t c.args.real.core was changed _ before parts parts c.args.begun begun (equal_test _ _ c.if-begun.true)
    (ap Some c.stay.ensures.real) refl refl refl

pub returns-clause-done : goal.returns-clause-done
returns-clause-done c h t changed was before begun =
    leave_done h t c.args.real.core was changed _ before (parts_of c.args.remotes.now c.args.out.now)
    (parts_of (record { nexts = c.leave.new.nexts; copies = c.args.remotes.now.copies }) c.leave.new.out) c.args.begun begun
    (other_test _ _ c.if-begun.false) refl refl c.leave.ensures
