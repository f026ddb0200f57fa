use Rattle.std.proofs.Common.{arith}
use Rattle.seam_cell.proofs.cell.Cell.hear_known.Goals as goal

pub hear_late-requires-clause-late : goal.hear_late-requires-clause-late
hear_late-requires-clause-late c =
    let lt = c.if-number-bounds_number.true in
    let mine = c.bounds_number.ensures in
    let brought = c.number_in-number.ensures in
    omega (arith, lt, mine, brought)

pub hear_in_time-requires-clause-in_time : goal.hear_in_time-requires-clause-in_time
hear_in_time-requires-clause-in_time c =
    let not = c.if-number-bounds_number.false in
    let mine = c.bounds_number.ensures in
    let brought = c.number_in-number.ensures in
    omega (arith, not, mine, brought)
