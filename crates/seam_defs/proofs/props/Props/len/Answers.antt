use Rattle.std.proofs.Common.{inl, arith}
use Rattle.seam_defs.proofs.Marks.{kept-length}
use Rattle.seam_defs.proofs.props.Props.len.Goals as goal

pub count-requires-clause-fits : goal.count-requires-clause-fits
count-requires-clause-fits c = inl (omega (arith, kept-length c.values.result.left_out c.values.result.values.now))
