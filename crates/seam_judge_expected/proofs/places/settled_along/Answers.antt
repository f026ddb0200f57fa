use Rattle.seam_rule_rounds.specs.RoundPlaces.{distances}
use Rattle.seam_judge_expected.proofs.Settlings.{settled_more}
use Rattle.seam_judge_expected.proofs.places.settled_along.Goals as goal

pub loop-pos-preserved : goal.loop-pos-preserved
loop-pos-preserved c = (
  settled_more (distances c.args.settings.now) c.args.tree.now c.args.was c.args.path.now c.loop-pos.pos-index _ c.loop-pos.place
      c.settled-place.result c.loop-pos-test.true c.loop-pos.invariant.0 c.settled-place.ensures.value,
  c.settled-place.ensures.cell,
)
