use Rattle.std.proofs.Common.{ap, sym, ◌∙◌}
use Rattle.seam_base.specs.Marks.{marked}
use Rattle.seam_base.proofs.Marks.{same_mark}
use Rattle.seam_base.proofs.parts.mark.Goals as goal

pub returns-then-is_ready : goal.returns-then-is_ready
returns-then-is_ready c =
    same_mark c.args.marks.now c.args.e c.requires ∙ ap (λ b. marked b c.args.marks.now c.args.e tt) (sym c.if-is_ready.true)

pub returns : goal.returns
returns c = c.remove.ensures ∙ ap (λ b. marked b c.args.marks.now c.args.e tt) (sym c.if-is_ready.false)
