use Rattle.std.proofs.Common.{◌≡◌, ◌≢◌, ◌∙◌, refl, sym, ap, ℕ, ◌<◌, ◌≤◌, ◌^◌, ◌+◌, ◌%◌, ◌/◌, add-one, drop, false, if◌then◌else◌, ◌∷◌}
use Rattle.std.proofs.Common.{arith}
use Rattle.std.specs.Prelude.{◌==◌}
use Rattle.std.proofs.Math.Nat.{pow-succ'}
use Rattle.std.proofs.Math.Pow.{pow_mono}
use Rattle.seam_defs.specs.Marks.{kept}
use Rattle.seam_defs.specs.Remaining.{properties_left, shown_of}
use Rattle.seam_defs.proofs.Marks.{even, odd, marked, kept-next, kept-passed, all-marked}
use Rattle.seam_defs.proofs.props.left_out_of_kept.Goals as goal
use Rattle.seam_defs.proofs.props.left_out_of_kept.Goals.{then-rest-eq0, else-rest-eq0, then-not-is_kept, else-not-is_kept}

mark-fits : (i n : ℕ) → i < n → n ≤ 32 → 2 ^ i ≤ 2 ^ 31
mark-fits i n within short = pow_mono {i = i} {j = 31} (omega arith)

uneven : (n : ℕ) → n % 2 ≢ 0 → (n % 2 == 0) ≡ false
uneven n e = let one : n % 2 ≡ 1 = omega arith in rw one refl

pub loop-init : goal.loop-init
loop-init c = record {
  mark = refl;
  below = omega arith;
  kept = ap (λ ps. shown_of c.args.group ps (kept c.args.before c.args.values.now)) c.new-of_held.ensures;
}

pub overflow_add-left_out : goal.overflow_add-left_out
overflow_add-left_out c =
    let fits = mark-fits c.loop.index _ c.loop-test.true c.requires in
    omega arith

pub overflow_mul-mark : goal.overflow_mul-mark
overflow_mul-mark c =
    let fits = mark-fits c.loop.index _ c.loop-test.true c.requires in
    omega arith

pub loop-preserved : goal.loop-preserved
loop-preserved c =
    let vs = c.args.values.now in
    let g = c.args.group in
    let i = c.loop.index in
    let v = c.loop-item.result in
    let old = c.loop.invariant in
    let ps = properties_left c.loop.of_held in
    let qs = properties_left c.if-rest-eq0.of_held in
    let before = c.loop.rest in
    let rest = kept (before / 2) (drop (i + 1) vs) in
    let power = pow-succ' 2 i in
    let low : c.loop.left_out < 2 ^ i = omega arith in
    let next : shown_of g ps (kept before (drop i vs))
    ≡ (if c.if-rest-eq0.is_kept then v ∷ shown_of g qs rest else shown_of g qs rest) =
    elim c.if-rest-eq0.branch [
      | then-rest-eq0 w ↦ rw (w.of_held-is, w.is_kept-is)
          (ap (shown_of g ps) (kept-next vs i v c.loop-test.true c.loop-item.is before (even before w.if-rest-eq0.true))
          ∙ w.is_next_in-is_kept.ensures v rest)
      | else-rest-eq0 w ↦ rw (w.of_held-is, w.is_kept-is, uneven before w.if-rest-eq0.false)
          (ap (shown_of g ps) (kept-passed vs i v c.loop-test.true c.loop-item.is before (odd before w.if-rest-eq0.false)))
    ] in
    let marks : c.if-not-is_kept.left_out ≡ (if c.if-rest-eq0.is_kept then c.loop.left_out else c.loop.left_out + 2 ^ i) =
    elim c.if-not-is_kept.branch [
      | then-not-is_kept w ↦ rw w.if-not-is_kept.true (w.left_out-is ∙ ap (λ m. c.loop.left_out + m) old.mark)
      | else-not-is_kept w ↦ rw w.if-not-is_kept.false w.left_out-is
    ] in
    record {
      mark = rw add-one (omega arith);
      below = elim c.if-not-is_kept.branch [
        | then-not-is_kept w ↦ let is = w.left_out-is in omega arith
        | else-not-is_kept w ↦ let is = w.left_out-is in omega arith
      ];
      kept = rw marks (marked vs i v c.loop-test.true c.loop-item.is g ps qs before c.loop.left_out c.if-rest-eq0.is_kept low next
          ∙ old.kept);
    }

pub returns : goal.returns
returns c =
    let vs = c.args.values.now in
    sym (all-marked vs c.loop.index c.loop-test.false c.args.group (properties_left c.loop.of_held) c.loop.rest c.loop.left_out)
    ∙ c.loop.invariant.kept
