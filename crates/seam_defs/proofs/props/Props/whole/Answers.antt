use Rattle.std.proofs.Common.{rules}
use Rattle.std.specs.Arc.{arc_value}
use Rattle.seam_defs.proofs.Marks.{kept-all}
use Rattle.seam_defs.proofs.props.Props.whole.Goals as goal

pub returns-then-self-eq0 : goal.returns-then-self-eq0
returns-then-self-eq0 c = let all = kept-all (arc_value c.self.inside.values).items in search rules
