use Rattle.std.proofs.Common.{◌-◌, sym, subst, arith}
use Rattle.seam_core.specs.Worlds.{IsWorld}
use Rattle.seam_core.proofs.Loading.{are_numbered, have_bases, some_bases, world_reaps}
use Rattle.seam_core.proofs.world.World.load_reaps.Goals as goal

pub reap_all-requires-clause-numbered : goal.reap_all-requires-clause-numbered
reap_all-requires-clause-numbered c = are_numbered c.self.inside.net c.self.invariant

pub reap_all-requires-clause-bases : goal.reap_all-requires-clause-bases
reap_all-requires-clause-bases c =
    let many = c.node_count.ensures.count in
    let all = c.self.invariant.many in
    have_bases c.self.inside.net c.self.invariant (c.node_count.result - 16) (omega (arith, many, all))

pub reap_all-requires-clause-some : goal.reap_all-requires-clause-some
reap_all-requires-clause-some c =
    let many = c.node_count.ensures.count in
    let all = c.self.invariant.many in
    let some = some_bases c.self.inside.net c.self.invariant in
    omega (arith, many, all, some)

pub invariant_of-result : goal.invariant_of-result
invariant_of-result c =
    subst IsWorld (sym c.in_ok-reap_all.ensures) (world_reaps c.self.inside.net c.self.invariant c.args.destroys.now)
