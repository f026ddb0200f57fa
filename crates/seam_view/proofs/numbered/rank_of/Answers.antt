use Rattle.std.proofs.Common.{◌<◌, get_or, arith}
use Rattle.seam_view.specs.ByNumber.{number_at}
use Rattle.seam_view.proofs.ByNumber.{rising_at, all_strictly_above}
use Rattle.seam_view.proofs.numbered.rank_of.Goals as goal

pub returns-else-is_at-2-clause-above : goal.returns-else-is_at-2-clause-above
returns-else-is_at-2-clause-above c = λ k d low lt.
    let f = number_at c.args.slots.now in
    let ps = c.args.by_number.now in
    let rank = c.many_below-rank.result in
    let there = c.if-is_at-2.ensures.other (omega (arith, low, lt)) in
    let least = c.many_below-rank.ensures.above rank 0 (omega arith) (omega (arith, low, lt)) in
    let above : c.args.e < f (get_or ps rank 0) = omega (arith, least, there) in
    all_strictly_above f ps rank c.args.e 0 (rising_at f ps c.requires.rising) (omega (arith, low, lt)) above k d low lt
