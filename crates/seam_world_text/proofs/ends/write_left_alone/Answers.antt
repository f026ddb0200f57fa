use Rattle.std.proofs.Common.{◌≡◌, ◌++◌, List, ap, ◌∙◌, append_assoc}
use Rattle.std.specs.List.{flat_map}
use Rattle.std.proofs.lemmas.Result.{on_ok_weaker}
use Rattle.seam_world_text.specs.RoundParts.{home_of, base_of, ghosts_of, shown_of}
use Rattle.seam_world_text.proofs.Joining.{four_parts}
use Rattle.seam_world_text.proofs.ends.write_left_alone.Goals as goal

pub returns : goal.returns
returns c =
    let rs = c.args.residents.now in
    let w = c.args.world.now in
    let defs = c.args.defs.now in
    on_ok_weaker c.push_clients.result
    (λ shown routes vs all.
    let ghosts = c.deref.ensures.value ∙ c.in_ok-push_homes.ensures.ghosts routes
    ∙ ap (λ l. l ++ flat_map (ghosts_of w) rs) c.new-ghosts.ensures.items in
    shown vs all
    ∙ ap (λ l. l ++ flat_map (shown_of defs c.args.kept.now w) rs)
    (c.in_ok-extend_from_slice.ensures.items
    ∙ (λ i. (c.in_ok-push_bases.ensures
    ∙ ap (λ l. l ++ flat_map (base_of defs w) rs) (c.in_ok-push_homes.ensures.homes routes)) i ++ ghosts i))
    ∙ four_parts c.args.out.now.items (flat_map (home_of defs w) rs) (flat_map (base_of defs w) rs) (flat_map (ghosts_of w) rs)
    (flat_map (shown_of defs c.args.kept.now w) rs))
    c.push_clients.ensures
