use Rattle.std.proofs.Common.{arith, ◌∙◌, ap, ℕ, sym, ◌-◌, ◌+◌, ◌≡◌}
use Rattle.seam_tree.specs.Division.{leaf_after}
use Rattle.seam_judge_expected.proofs.Settlings.{leaf_more}
use Rattle.seam_judge_expected.proofs.places.leaf_at.Goals as goal

pub loop-b-preserved : goal.loop-b-preserved
loop-b-preserved c =
    let past : c.loop-b.b + 1 - 1 ≡ c.loop-b.b = omega arith in
    let below = c.leaf_past-leaf.ensures.most (omega arith) in (
      leaf_more c.args.tree.now c.loop-b.b c.loop-b.leaf c.leaf_past-leaf.result c.args.pos (omega arith) c.loop-b.invariant.0
          c.leaf_past-leaf.ensures.value
          ∙ ap (λ (m : ℕ). leaf_after c.args.tree.now m c.args.pos) (sym past),
      omega (arith, below),
    )
