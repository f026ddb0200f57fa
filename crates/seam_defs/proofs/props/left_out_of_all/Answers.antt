use Rattle.std.proofs.Common.{◌≡◌, ◌∙◌, refl, sym, ◌<◌, ◌^◌, ◌+◌, add-one, drop, drop-cons, [], ◌∷◌, if◌then◌else◌, true, false, arith}
use Rattle.std.proofs.Math.Nat.{pow-succ'}
use Rattle.std.proofs.lemmas.List.{drop_all}
use Rattle.seam_value.specs.declared.values.Value.{Value}
use Rattle.seam_defs.specs.Groups.{in_group}
use Rattle.seam_defs.specs.Deeds.{properties_of}
use Rattle.seam_defs.specs.Remaining.{shown_of}
use Rattle.seam_defs.proofs.Marks.{marked-all, marked-out}
use Rattle.seam_defs.proofs.PropertyPlaces.{zip-nil}
use Rattle.seam_defs.proofs.props.left_out_of_all.Goals as goal
use Rattle.seam_defs.proofs.props.left_out_of_all.Goals.{then-passed-count+then-in_group, then-not-in_group, else-not-in_group}
use Rattle.seam_defs.proofs.props.left_out_of_all.Goals.{else-passed-count, else-passed-count-via-then-passed-count+else-in_group}
use Rattle.seam_defs.proofs.props.left_out_of_all.Goals.{else-passed-count-via-else-passed-count}

dropped : (c : goal.Joined-passed-count) → drop c.loop-property.property-index c.args.properties.now
    ≡ c.property-item.result ∷ drop (c.loop-property.property-index + 1) c.args.properties.now
dropped c =
    let ps = c.args.properties.now in
    let i = c.loop-property.property-index in
    rw (add-one, c.property-item.is) (drop-cons ps i c.property-item.result c.loop-property-test.true)

pub loop-property-preserved : goal.loop-property-preserved
loop-property-preserved c =
    let g = c.args.group in
    let p = c.property-item.result in
    let qs = properties_of (drop (c.loop-property.property-index + 1) c.args.properties.now) c.args.held in
    let old = c.loop-property.invariant in
    elim c.if-passed-count.branch [
      | then-passed-count+then-in_group w ↦
          let is_held : in_group p.flag c.args.held ≡ true = sym w.in_group.ensures ∙ w.if-in_group.true in
          let next : properties_of (drop c.loop-property.property-index c.args.properties.now) c.args.held ≡ p ∷ qs =
          rw (dropped c, is_held) refl in
          let power = pow-succ' 2 c.loop-property.passed in
          let low : c.loop-property.left_out < 2 ^ c.loop-property.passed = omega arith in
          let marks : c.if-passed-count.left_out
          ≡ (if in_group p.flag g then c.loop-property.left_out else c.loop-property.left_out + 2 ^ c.loop-property.passed) =
          elim w.if-not-in_group.branch [
            | then-not-in_group u ↦ rw (w.left_out-is, u.left_out-is, ← w.in_group-then-in_group.ensures, u.if-not-in_group.true, old.mark)
                refl
            | else-not-in_group u ↦ rw (w.left_out-is, u.left_out-is, ← w.in_group-then-in_group.ensures, u.if-not-in_group.false) refl
          ] in
          record {
            mark = rw (w.mark-is, w.passed-is, add-one) (omega (arith, old.mark, power));
            below = elim w.if-not-in_group.branch [
              | then-not-in_group u ↦ omega (arith, w.left_out-is, u.left_out-is, w.mark-is, old.below)
              | else-not-in_group u ↦ omega (arith, w.left_out-is, u.left_out-is, w.mark-is, old.below)
            ];
            within = omega (arith, w.passed-is, w.if-passed-count.true);
            kept = λ vs long. rw (marks, w.passed-is) (marked-all vs c.loop-property.passed g p qs c.loop-property.left_out
                (omega (arith, long, w.if-passed-count.true)) low
                ∙ (rw next at (old.kept vs long)));
          }
      | else-passed-count w ↦
          record {
            mark = rw (w.mark-is, w.passed-is) old.mark;
            below = rw (w.left_out-is, w.mark-is) old.below;
            within = rw w.passed-is old.within;
            kept = λ vs long. rw (w.left_out-is, w.passed-is) (elim w.else-passed-count.branch [
              | else-passed-count-via-then-passed-count+else-in_group u ↦
                  let not_held : in_group p.flag c.args.held ≡ false = sym u.in_group.ensures ∙ u.if-in_group.false in
                  let next : properties_of (drop c.loop-property.property-index c.args.properties.now) c.args.held ≡ qs =
                  rw (dropped c, not_held) refl in
                  rw next at (old.kept vs long)
              | else-passed-count-via-else-passed-count u ↦
                  let past : drop c.loop-property.passed vs ≡ [] =
                  drop_all c.loop-property.passed vs (omega (arith, long, u.if-passed-count.false)) in
                  let before = properties_of (drop c.loop-property.property-index c.args.properties.now) c.args.held in
                  let same : shown_of g before (drop c.loop-property.passed vs) ≡ shown_of g qs (drop c.loop-property.passed vs) =
                  rw (past, zip-nil {B = Value} before, zip-nil {B = Value} qs) refl in
                  rw same at (old.kept vs long)
            ]);
          }
    ]

pub loop-preserved : goal.loop-preserved
loop-preserved c =
    let old = c.loop.invariant in
    let power = pow-succ' 2 c.loop.counter in
    let low : c.loop.left_out < 2 ^ c.loop.counter = omega arith in
    record {
      mark = rw add-one (omega arith);
      below = omega arith;
      within = omega arith;
      kept = λ vs long. rw old.mark (marked-out vs c.loop.counter c.loop.left_out (omega (arith, long, c.loop-test.true)) low)
          ∙ old.kept vs long;
    }
