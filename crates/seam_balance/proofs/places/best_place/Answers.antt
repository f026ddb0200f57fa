use Rattle.std.proofs.Common.{◌<◌, ◌≤◌, arith}
use Rattle.seam_balance.specs.Balance.{difference}
use Rattle.seam_balance.proofs.Best.{IsUpper, IsLower, IsBestWithin, best_start, best_lower, best_upper}
use Rattle.seam_balance.proofs.places.best_place.Goals as goal

pub returns-then-upper-lowest : goal.returns-then-upper-lowest
returns-then-upper-lowest c =
    let upper : IsUpper c.args.places.now c.min-half.result c.args.lowest c.args.highest c.first_above-upper.result = record {
      count_is = omega (arith, c.min-half.ensures, c.count_below.ensures);
      found = record {
        from = c.first_above-upper.ensures.from;
        to = c.first_above-upper.ensures.to;
        enough = c.first_above-upper.ensures.enough;
        first = c.first_above-upper.ensures.first;
      };
    } in
    let best : IsBestWithin c.args.places.now c.args.lowest c.args.highest c.args.lowest =
    best_start _ _ _ _ _ upper c.if-upper-lowest.true in
    record { from = best.from; to = best.to; least = best.least; lowest = best.lowest }

pub returns-then-difference_at : goal.returns-then-difference_at
returns-then-difference_at c =
    let upper : IsUpper c.args.places.now c.min-half.result c.args.lowest c.args.highest c.first_above-upper.result = record {
      count_is = omega (arith, c.min-half.ensures, c.count_below.ensures);
      found = record {
        from = c.first_above-upper.ensures.from;
        to = c.first_above-upper.ensures.to;
        enough = c.first_above-upper.ensures.enough;
        first = c.first_above-upper.ensures.first;
      };
    } in
    let lower : IsLower c.args.places.now c.args.lowest c.first_above-upper.result c.first_above-lower.result = record {
      inside = omega (arith, c.first_above-upper.ensures.from, c.if-upper-lowest.false);
      found = record {
        from = c.first_above-lower.ensures.from;
        to = c.first_above-lower.ensures.to;
        enough = omega (arith, c.first_above-lower.ensures.enough, c.count_below-2.ensures);
        first = λ other from to. omega (arith, c.first_above-lower.ensures.first other from to, c.count_below-2.ensures);
      };
    } in
    let better : difference c.args.places.now c.first_above-lower.result ≤ difference c.args.places.now c.first_above-upper.result =
    omega (arith, c.if-difference_at.true, c.difference_at.ensures, c.difference_at-2.ensures) in
    let best : IsBestWithin c.args.places.now c.args.lowest c.args.highest c.first_above-lower.result =
    best_lower _ _ _ _ _ _ upper lower better in
    record { from = best.from; to = best.to; least = best.least; lowest = best.lowest }

pub returns-else-difference_at : goal.returns-else-difference_at
returns-else-difference_at c =
    let upper : IsUpper c.args.places.now c.min-half.result c.args.lowest c.args.highest c.first_above-upper.result = record {
      count_is = omega (arith, c.min-half.ensures, c.count_below.ensures);
      found = record {
        from = c.first_above-upper.ensures.from;
        to = c.first_above-upper.ensures.to;
        enough = c.first_above-upper.ensures.enough;
        first = c.first_above-upper.ensures.first;
      };
    } in
    let lower : IsLower c.args.places.now c.args.lowest c.first_above-upper.result c.first_above-lower.result = record {
      inside = omega (arith, c.first_above-upper.ensures.from, c.if-upper-lowest.false);
      found = record {
        from = c.first_above-lower.ensures.from;
        to = c.first_above-lower.ensures.to;
        enough = omega (arith, c.first_above-lower.ensures.enough, c.count_below-2.ensures);
        first = λ other from to. omega (arith, c.first_above-lower.ensures.first other from to, c.count_below-2.ensures);
      };
    } in
    let better : difference c.args.places.now c.first_above-upper.result < difference c.args.places.now c.first_above-lower.result =
    omega (arith, c.if-difference_at.false, c.difference_at.ensures, c.difference_at-2.ensures) in
    let best : IsBestWithin c.args.places.now c.args.lowest c.args.highest c.first_above-upper.result =
    best_upper _ _ _ _ _ _ upper lower better in
    record { from = best.from; to = best.to; least = best.least; lowest = best.lowest }
