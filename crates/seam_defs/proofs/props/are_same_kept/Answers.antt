use Rattle.std.proofs.Common.{◌≡◌, ◌≢◌, ◌<◌, ◌/◌, ◌+◌, ◌↔◌, drop, length, arith, rules, tests}
use Rattle.seam_defs.specs.Marks.{kept}
use Rattle.seam_defs.proofs.Marks.{even, odd, both-passed, both-next, one-differs}
use Rattle.seam_defs.proofs.props.are_same_kept.Goals as goal
use Rattle.seam_defs.proofs.props.are_same_kept.Goals.{else-marks-eq0-via-then-marks-eq0+else-ne, else-marks-eq0-via-else-marks-eq0}

pub returns-then-ne : goal.returns-then-ne
returns-then-ne c =
    let others-within : c.loop-i.i < length c.args.others.now = omega arith in
    let apart : c.index-values-i.result ≢ c.index-others-i.result = search (rules, tests) in
    let differs =
    one-differs c.args.values.now c.args.others.now c.loop-i.i c.index-values-i.result c.index-others-i.result c.loop-i-test.true
    others-within
    c.index-values-i.is c.index-others-i.is c.loop-i.marks (even c.loop-i.marks c.if-marks-eq0.true) in
    ((λ t. absurd cc), (λ same. absurd (apart (differs (c.loop-i.invariant.0 same)))))

pub loop-i-preserved : goal.loop-i-preserved
loop-i-preserved c =
    let vs = c.args.values.now in
    let ws = c.args.others.now in
    let i = c.loop-i.i in
    let m = c.loop-i.marks in
    let v = c.index-values-i.result in
    let w = c.index-others-i.result in
    let others-within : i < length ws = omega arith in
    let step : (kept m (drop i vs) ≡ kept m (drop i ws)) ↔ (kept (m / 2) (drop (i + 1) vs) ≡ kept (m / 2) (drop (i + 1) ws)) =
    elim c.else-marks-eq0.branch [
      | else-marks-eq0-via-then-marks-eq0+else-ne u ↦
          let same : v ≡ w = search (rules, tests) in
          both-next vs ws i v w c.loop-i-test.true others-within c.index-values-i.is c.index-others-i.is m (even m u.if-marks-eq0.true) same
      | else-marks-eq0-via-else-marks-eq0 u ↦
          both-passed vs ws i v w c.loop-i-test.true others-within c.index-values-i.is c.index-others-i.is m (odd m u.if-marks-eq0.false)
    ] in
    ((λ e. step.0 (c.loop-i.invariant.0 e)), (λ e. c.loop-i.invariant.1 (step.1 e)))
