use Rattle.std.proofs.Common.{rules}
use Rattle.std.specs.Arc.{arc_value}
use Rattle.seam_defs.proofs.Marks.{kept-all}
use Rattle.seam_defs.proofs.props.Props.project.Goals as goal
use Rattle.seam_defs.proofs.props.Props.project.Goals.{then-self-eq0, else-self-eq0}

pub returns : goal.returns
returns c =
    elim c.if-self-eq0.branch [
      | then-self-eq0 w ↦ let all = kept-all (arc_value c.self.inside.values).items in search rules
      | else-self-eq0 w ↦ search rules
    ]
