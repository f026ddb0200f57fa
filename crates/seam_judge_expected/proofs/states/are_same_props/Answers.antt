use Rattle.std.proofs.lemmas.Bool.Decides.{same_from_decides}
use Rattle.seam_defs.specs.Tests.{same_values}
use Rattle.seam_judge_expected.proofs.Versions.{same_values_decides}
use Rattle.seam_judge_expected.proofs.states.are_same_props.Goals as goal

pub returns : goal.returns
returns c =
    same_from_decides c.is.result (same_values c.args.a.now c.args.b.now) c.is.ensures (same_values_decides c.args.a.now c.args.b.now)
