use Rattle.std.proofs.Common.{◌-◌, ◌<◌, get_or, arith}
use Rattle.std.specs.List.Sorted.{IsNonDecreasing}
use Rattle.std.proofs.lemmas.List.Sorted.{IsNonDecreasingBy-from_sort}
use Rattle.seam_balance.proofs.Best.{IsFirstAbove, last_below, first_above_last}
use Rattle.seam_balance.proofs.places.first_above.Goals as goal

pub overflow_add-places : goal.overflow_add-places
overflow_add-places c =
    let rising : IsNonDecreasing c.args.places.now = IsNonDecreasingBy-from_sort (λ x. x) c.args.places.now c.requires.rising in
    let below : get_or c.args.places.now (c.args.count - 1) 0 < c.args.highest =
    last_below c.args.places.now c.args.count c.args.highest rising c.if-count-eq0.false c.requires.enough in
    omega (arith, below, c.ranges.highest.fits)

pub returns : goal.returns
returns c =
    let rising : IsNonDecreasing c.args.places.now = IsNonDecreasingBy-from_sort (λ x. x) c.args.places.now c.requires.rising in
    let found : IsFirstAbove c.args.places.now c.args.count c.args.lowest c.args.highest c.max.result =
    first_above_last c.args.places.now c.args.count c.args.lowest c.args.highest c.max.result rising c.if-count-eq0.false c.requires.range
    c.requires.enough c.max.ensures in
    record { from = found.from; to = found.to; enough = found.enough; first = found.first }
