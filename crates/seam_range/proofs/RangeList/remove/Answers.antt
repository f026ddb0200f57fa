use Rattle.std.proofs.Common.{sym, ap, ◌∙◌, is_some, option_map}
use Rattle.std.specs.FinMap as map
use Rattle.seam_range.proofs.Ranks.{none_some}
use Rattle.seam_range.proofs.Links.{surplus_when_removed}
use Rattle.seam_range.proofs.Kept.{location_of_entity, locations_when_removed, spot_of_key, indexed_when_out}
use Rattle.seam_range.proofs.RangeList.remove.Goals as goal

pub returns-in_default-clause-was_there : goal.returns-in_default-clause-was_there
returns-in_default-clause-was_there c =
    ap (λ o. is_some (option_map (λ x. x.location) o)) c.in_default.ensures.value
    ∙ ap is_some (sym (location_of_entity c.self.inside.locations c.args.e) ∙ ap (λ w. map.get w c.args.e) c.self.view_is)

pub returns-in_default-clause-after : goal.returns-in_default-clause-after
returns-in_default-clause-after c =
    locations_when_removed c.self.inside.locations c.remove.new.self c.args.e c.remove.ensures.updates.0
    ∙ ap (λ w. map.remove w c.args.e) c.self.view_is

pub unreachable-requires : goal.unreachable-requires
unreachable-requires c =
    let y =
    spot_of_key c.self.inside.locations c.self.inside.spots c.self.inside.buckets c.self.invariant c.args.e c.in-Some.keyed
    (sym c.in-Some.ensures.value) in
    none_some y.0 (c.in_default-try_remove.ensures.value ∙ y.1)

pub unlink-requires : goal.unlink-requires
unlink-requires c =
    surplus_when_removed c.self.inside.buckets c.self.inside.buckets c.self.inside.spots c.try_remove.new.self c.in-Some.keyed.key
    c.in-Some-try_remove.spot c.self.invariant.linked (sym c.in-Some-try_remove.ensures.value) c.try_remove.ensures.updates

pub invariant_of-self-2 : goal.invariant_of-self-2
invariant_of-self-2 c =
    indexed_when_out c.self.inside.locations c.remove.new.self c.self.inside.spots c.unlink.new.spots c.self.inside.buckets
    c.unlink.new.buckets c.self.invariant c.unlink.ensures.linked c.remove.ensures.ordered c.args.e c.in-Some.keyed
    (sym c.in-Some.ensures.value) c.try_remove.new.self c.remove.ensures.updates.0 c.try_remove.ensures.updates c.unlink.ensures.locations

pub returns-clause-was_there : goal.returns-clause-was_there
returns-clause-was_there c =
    ap (λ o. is_some (option_map (λ x. x.location) o)) c.in-Some.ensures.value
    ∙ ap is_some (sym (location_of_entity c.self.inside.locations c.args.e) ∙ ap (λ w. map.get w c.args.e) c.self.view_is)

pub returns-clause-after : goal.returns-clause-after
returns-clause-after c =
    locations_when_removed c.self.inside.locations c.remove.new.self c.args.e c.remove.ensures.updates.0
    ∙ ap (λ w. map.remove w c.args.e) c.self.view_is
