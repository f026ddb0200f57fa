use Rattle.std.proofs.Common.{subst, sym, ap, ◌∙◌}
use Rattle.std.specs.List.{filter}
use Rattle.seam_range.specs.Locations.{is_within}
use Rattle.seam_cell_parts.specs.Spots.{real_locations, located_reals}
use Rattle.seam_cell_parts.proofs.SpotLemmas.{real_list, reals_rise}
use Rattle.seam_cell_look.specs.Near.{AreNear}
use Rattle.seam_cell_look.proofs.NearLemmas.{listed_near, walked_near}
use Rattle.seam_cell_look.proofs.looking.Sight.near_reals.Goals as goal

pub returns-in_default : goal.returns-in_default
returns-in_default c =
    let m = c.args.self.now.reals.now.items in
    let p = c.args.own in
    let is = c.those_within.ensures ∙ ap (filter (λ e. is_within p c.args.reach e.1)) c.in_ok-all.ensures in
    subst (AreNear p c.args.reach c.args.self.now.own (real_locations m)) (sym is)
    (walked_near p c.args.reach c.args.self.now.own (real_locations m) (located_reals m) (reals_rise m) (real_list m))

pub returns : goal.returns
returns c =
    let m = c.args.self.now.reals.now.items in
    let p = c.args.own in
    subst (AreNear p c.args.reach c.args.self.now.own (real_locations m)) (sym c.in_ok-near.ensures)
    (listed_near p c.args.reach c.args.self.now.own (real_locations m) c.in-Some.list.now c.in-Some.ensures)
