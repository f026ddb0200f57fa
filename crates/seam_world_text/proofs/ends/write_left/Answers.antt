use Rattle.std.proofs.Common.{◌≡◌, ◌++◌, List, ap, ◌∙◌}
use Rattle.std.specs.List.{flat_map}
use Rattle.std.proofs.lemmas.Result.{on_ok_weaker}
use Rattle.seam_world_text.specs.RoundParts.{home_of, base_of, ghosts_of, shown_of}
use Rattle.seam_world_text.proofs.Joining.{four_parts}
use Rattle.seam_world_text.proofs.ends.write_left.Goals as goal

pub returns : goal.returns
returns g c =
    let rs = c.args.residents.now in
    let w = c.args.world.now in
    let defs = c.args.defs.now in
    on_ok_weaker c.push_second-2.result
    (λ last routes vs all.
    let homes = c.in_ok-homes.ensures routes in
    let told = c.in_ok-told.ensures vs all in
    last
    ∙ (λ i. (c.in_ok-push_second.ensures
    ∙ (λ j. (c.in_ok-push_first-2.ensures
    ∙ (λ k. (c.in_ok-push_first.ensures ∙ ap (λ l. c.args.out.now.items ++ l) homes.first) k ++ told.first k)) j ++ homes.second j)) i
    ++ told.second i)
    ∙ four_parts c.args.out.now.items (flat_map (home_of defs w) rs) (flat_map (base_of defs w) rs) (flat_map (ghosts_of w) rs)
    (flat_map (shown_of defs c.args.kept.now w) rs))
    c.push_second-2.ensures
