use Rattle.std.proofs.Common.{ap, length, refl, arith}
use Rattle.seam_rule_rounds.specs.Prelude.{cells_of, tree_of}
use Rattle.seam_judge_data.specs.Standings.{standing_of}
use Rattle.seam_judge_rounds.proofs.Homes.{every_home}
use Rattle.seam_judge_rounds.proofs.places.have_homes.Goals as goal

pub returns : goal.returns
returns c =
    let long = ap length c.deref-held-items.ensures.value in (
      (λ _. every_home c.args.before.now.places.items (cells_of (tree_of (standing_of c.args.before.now).book)) (omega arith)
          (λ k d within. c.loop-held.invariant k d (omega (arith, within, long, c.loop-held-test.false)))),
      (λ _. refl),
    )
