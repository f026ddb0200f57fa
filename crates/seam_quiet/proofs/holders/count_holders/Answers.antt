use Rattle.std.proofs.Common.{min, ap, ◌∙◌}
use Rattle.seam_node_steps.specs.Holders.{holders}
use Rattle.seam_core.proofs.Worlds.{lives_once}
use Rattle.seam_quiet.proofs.Counts.{most}
use Rattle.seam_quiet.proofs.holders.count_holders.Goals as goal

pub returns-clause-one : goal.returns-clause-one
returns-clause-one c lives =
    let v = c.args.world.now in
    let one = lives_once c.args.e v (c.every_world_obeys_the_laws.ensures v) lives in
    c.count_in.ensures ∙ (ap (λ w. min (holders w c.args.e) most) c.net.ensures ∙ ap (λ n. min n most) one)
