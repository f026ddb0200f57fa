use Rattle.std.proofs.Common.{◌≡◌, subst, rules}
use Rattle.seam_world_text.specs.Finding.{lines_found}
use Rattle.seam_world_text.specs.Told.{ShowOf}
use Rattle.seam_world_text.proofs.ends.push_lines.Goals as goal

pub returns-in-Some-clause-kept : goal.returns-in-Some-clause-kept
returns-in-Some-clause-kept c vs go all =
    let found : lines_found c.args.world.now c.args.made.now.entity ≡ c.lines.result.now = search rules in
    c.push_each.ensures.kept vs go (subst (ShowOf vs) found all)
