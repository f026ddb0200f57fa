use Rattle.seam_defs.proofs.Marks.{kept-all}
use Rattle.seam_defs.proofs.props.KeptValues.all.Goals as goal

pub returns : goal.returns
returns c = kept-all c.args.values.now
