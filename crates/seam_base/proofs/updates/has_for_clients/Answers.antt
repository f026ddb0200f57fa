use Rattle.std.proofs.Common.{ap, ◌∙◌}
use Rattle.std.specs.List.{list_any}
use Rattle.seam_defs.specs.Groups.{in_group}
use Rattle.seam_defs.specs.declared.flags.Group.TheVariants as group
use Rattle.seam_base.proofs.PartLemmas.{any_filter}
use Rattle.seam_base.proofs.updates.has_for_clients.Goals as goal

pub returns : goal.returns
returns c =
    c.is_any_for_clients.ensures
    ∙ (ap (list_any (λ p. in_group p.flag group.BaseClient)) c.as_slice.ensures
    ∙ any_filter (λ p. in_group p.flag group.BaseClient) c.args.t.now.properties)
