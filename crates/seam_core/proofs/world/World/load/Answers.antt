use Rattle.std.proofs.Common.{sym, subst, ap, ◌∙◌}
use Rattle.seam_node_steps.specs.Prelude.{EachNode, World, loaded}
use Rattle.seam_core.specs.Worlds.{IsWorld}
use Rattle.seam_core.specs.Loads.{MayLoad, IsNumbered}
use Rattle.seam_core.proofs.Worlds.{leads_none}
use Rattle.seam_core.proofs.Loading.{may_begin, numbered_begun, loaded_by, world_loaded}
use Rattle.seam_core.proofs.world.World.load.Goals as goal

pub begin_all-requires : goal.begin_all-requires
begin_all-requires c =
    may_begin c.self.inside.net c.self.invariant c.args.batch (subst (λ w. MayLoad w c.args.batch) (sym c.self.view_is) c.requires)

pub give_all-requires : goal.give_all-requires
give_all-requires c =
    subst (λ (w : World). EachNode IsNumbered w.nodes) (sym c.in_ok-begin_all.ensures)
    (numbered_begun c.self.inside.net c.self.invariant c.args.batch
    (subst (λ w. MayLoad w c.args.batch) (sym c.self.view_is) c.requires) c.size.ensures.tree)

pub invariant_of-result : goal.invariant_of-result
invariant_of-result c =
    let w = c.self.inside.net in
    let b = c.args.batch in
    subst IsWorld
    (sym (loaded_by w c.begin_all.new.net c.give_all.new.net b c.into_vec.result.items c.in_ok-begin_all.ensures c.into_vec.ensures
    c.in_ok-give_all.ensures))
    (world_loaded w c.self.invariant b (subst (λ v. MayLoad v b) (sym c.self.view_is) c.requires) c.size.ensures.tree)

pub returns-clause-loaded : goal.returns-clause-loaded
returns-clause-loaded c =
    let w = c.self.inside.net in
    let b = c.args.batch in
    loaded_by w c.begin_all.new.net c.give_all.new.net b c.into_vec.result.items c.in_ok-begin_all.ensures c.into_vec.ensures
    c.in_ok-give_all.ensures
    ∙ ap (λ v. loaded v b) c.self.view_is

pub returns-clause-starts : goal.returns-clause-starts
returns-clause-starts c =
    let w = c.self.inside.net in
    let b = c.args.batch in
    leads_none (loaded c.args.self b) c.give_all.new.net
    (loaded_by w c.begin_all.new.net c.give_all.new.net b c.into_vec.result.items c.in_ok-begin_all.ensures c.into_vec.ensures
    c.in_ok-give_all.ensures
    ∙ ap (λ v. loaded v b) c.self.view_is)
