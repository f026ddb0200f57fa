use Rattle.std.proofs.Common.{arith, refl}
use Rattle.seam_judge_data.proofs.Trees.{same_trees}
use Rattle.seam_judge_data.proofs.same.TreeSame.is.Goals as goal

pub returns : goal.returns
returns c = (
  (λ _. same_trees c.args.self.now c.args.other.now (cc) (cc)
      (λ k from below. c.loop-number.invariant k from (omega (arith, below)))),
  (λ _. refl),
)
