use Rattle.std.proofs.Common.{◌<◌, length, arith}
use Rattle.seam_machine.proofs.Counting.{filled_more}
use Rattle.seam_machine.proofs.links.count_filled.Goals as goal
use Rattle.seam_machine.proofs.links.count_filled.Goals.{then-len-gt0, else-len-gt0}

pub loop-i-preserved : goal.loop-i-preserved
loop-i-preserved g c =
    let rows = c.args.rows.now.items in
    let lt : c.loop-i.i < length rows = omega (arith, c.args.rows.now.ok.0) in
    let more = filled_more c.args.to rows c.loop-i.i c.index.result.now lt c.index.ensures in
    let len = c.len.ensures.len in
    let so_far = c.loop-i.invariant.so_far in
    elim c.if-len-gt0.branch [
      | then-len-gt0 w ↦ record { so_far = omega (arith, more, len, so_far, w.n-is, w.if-len-gt0); few = omega (arith, w.n-is) }
      | else-len-gt0 w ↦ record { so_far = omega (arith, more, len, so_far, w.n-is, w.if-len-gt0); few = omega (arith, w.n-is) }
    ]
