use Rattle.std.proofs.Common.{length, sym, subst, ap, ◌∙◌, arith}
use Rattle.seam_law_rounds.specs.LastPhases.{first_frame}
use Rattle.seam_law_all.specs.Records.{KeepsRecords}
use Rattle.seam_core.specs.Worlds.{IsWorld}
use Rattle.seam_core.proofs.Worlds.{frame_opened, many_opened, world_opened, is_opened}
use Rattle.seam_core.proofs.world.World.«open».Goals as goal

pub new-requires : goal.new-requires
new-requires c =
    let many = ap length c.in_ok-nodes.ensures ∙ many_opened c.args.defs.now c.args.settings c.known.ensures c.requires in
    let most = c.requires.in_range.bases in
    omega (arith, many, most)

pub invariant_of-result : goal.invariant_of-result
invariant_of-result c =
    let defs = c.args.defs.now in
    let settings = c.args.settings in
    subst IsWorld
    (sym (is_opened defs settings c.known.ensures c.requires c.in_ok-nodes.nodes.items c.in_ok-net.net c.in_ok-nodes.ensures
    c.in_ok-net.ensures))
    (world_opened defs settings c.known.ensures c.requires)

pub returns-clause-opened : goal.returns-clause-opened
returns-clause-opened c =
    is_opened c.args.defs.now c.args.settings c.known.ensures c.requires c.in_ok-nodes.nodes.items c.in_ok-net.net c.in_ok-nodes.ensures
    c.in_ok-net.ensures

pub returns-clause-records : goal.returns-clause-records
returns-clause-records c clients =
    let defs = c.args.defs.now in
    let settings = c.args.settings in
    subst (KeepsRecords (first_frame defs settings) clients)
    (sym (is_opened defs settings c.known.ensures c.requires c.in_ok-nodes.nodes.items c.in_ok-net.net c.in_ok-nodes.ensures
    c.in_ok-net.ensures))
    (c.an_opened_world_keeps_the_records.ensures defs settings (frame_opened defs settings c.known.ensures c.requires)
    c.requires.in_range.some_bases c.requires.reach clients)
