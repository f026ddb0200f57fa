use Rattle.std.proofs.Common.{◌≡◌, arith}
use Rattle.std.proofs.lemmas.Grind.{common_steps}
use Rattle.seam_defs.specs.Groups.{held_by}
use Rattle.seam_defs.specs.Deeds.{after_body}
use Rattle.seam_defs.proofs.Keeping.{method-keeps}
use Rattle.seam_defs.proofs.deeds.run.Goals as goal

pub returns-clause-kept : goal.returns-clause-kept
returns-clause-kept c takes of =
    let m = c.args.method.now in
    let done : c.in_ok-of.field-0 ≡ after_body c.args.properties.now (held_by m.part) c.args.args.now m.body c.args.props.now =
    grind (arith, common_steps, c.in_ok-of.ensures, c.in_ok-operate_all.ensures, c.in_ok-later.ensures, c.deref_mut.ensures) in
    rw done (method-keeps c.args.properties.now m c.args.args.now takes c.requires c.args.props.now of)
