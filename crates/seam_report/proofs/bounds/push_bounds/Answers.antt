use Rattle.std.proofs.Common.{◌<◌, ◌++◌, ◌∙◌, ap, sym, subst, append_assoc}
use Rattle.std.specs.Option.{IsSome}
use Rattle.seam_rule_rounds.specs.RoundTexts.{bound_text}
use Rattle.seam_report.proofs.Numbered.{text_below, next_bound}
use Rattle.seam_report.proofs.bounds.push_bounds.Goals.{in-Some+in_ok-push_bound, in_default}
use Rattle.seam_report.proofs.bounds.push_bounds.Goals as goal

pub loop-number-preserved : goal.loop-number-preserved
loop-number-preserved c =
    let tree = c.args.tree.now in
    let n = c.loop-number.number in
    let first = c.args.out.now.items in
    elim c.match-boundary.branch [
      | in-Some+in_ok-push_bound w ↦
          let next = next_bound tree n w.in-Some.boundary c.loop-number.auto.number (sym c.boundary.ensures.value ∙ w.in-Some.is) in
          ap (λ v. v.items) w.out-is ∙ w.in_ok-push_bound.ensures next.0 next.1
          ∙ ap (λ text. text ++ bound_text (n, next.0)) c.loop-number.invariant
          ∙ append_assoc first (text_below tree n) (bound_text (n, next.0))
          ∙ ap (λ text. first ++ text) (sym next.2)
      | in_default w ↦
          let to_last = subst (λ k. n < k) c.cells-number-end.ensures.count c.loop-number-test.true in
          let some = c.boundary.ensures.present.1 (record { from_one = c.loop-number.auto.number; to_last = to_last }) in
          let none = subst IsSome w.in_default.is some in absurd (let z = none in cc)
    ]
