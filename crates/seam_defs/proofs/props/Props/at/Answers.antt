use Rattle.std.proofs.lemmas.Iterator.Consumers.{YieldsList-from_first, nth_from_yields_List}
use Rattle.seam_defs.specs.Remaining.{values_left}
use Rattle.seam_defs.proofs.props.Props.at.Goals as goal

pub returns : goal.returns
returns c = nth_from_yields_List c.nth.result c.nth.new.self c.args.i c.nth.ensures.ran
    (YieldsList-from_first (λ v. v.now) values_left c.args.self.now cc)
