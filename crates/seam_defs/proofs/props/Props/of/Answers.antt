use Rattle.std.proofs.Common.{rules}
use Rattle.seam_defs.proofs.Marks.{kept-all}
use Rattle.seam_defs.proofs.props.Props.of.Goals as goal

pub returns-in-Ok : goal.returns-in-Ok
returns-in-Ok c = rw (kept-all c.in-Ok.values.value.items) (search rules)
