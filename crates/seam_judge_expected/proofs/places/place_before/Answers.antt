use Rattle.seam_judge_data.proofs.CellNumbers.{none_are_small}
use Rattle.seam_judge_expected.proofs.places.place_before.Goals as goal

pub invariant_of-result : goal.invariant_of-result
invariant_of-result c = none_are_small c.none.result c.none.ensures
