use Rattle.std.proofs.Common.{sym}
use Rattle.seam_core.proofs.loads.begin_at.Goals as goal

pub begin-requires : goal.begin-requires
begin-requires c = c.requires.may c.in-Some.node.now (sym c.in-Some.ensures.value)
