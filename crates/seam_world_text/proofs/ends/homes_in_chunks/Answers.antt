use Rattle.std.proofs.Common.{◌∙◌, get_or, ap, sym}
use Rattle.std.specs.List.{flat_map}
use Rattle.seam_world_text.specs.RoundParts.{home_of, ghosts_of}
use Rattle.seam_judge_expected.proofs.ListedLemmas.{if_ok}
use Rattle.seam_world_text.proofs.Joining.{texts_join}
use Rattle.seam_world_text.proofs.ends.homes_in_chunks.Goals as goal

pub returns : goal.returns
returns g c =
    let first = home_of c.args.defs.now c.args.world.now in
    let second = ghosts_of c.args.world.now in
    let chunks = c.in_ok-chunks.chunks.items in
    if_ok c.all_written.result
    (λ ts are routes. texts_join first second c.args.size c.args.residents.now chunks ts.items are
    (λ n d lt.
    let one = (c.in_ok-chunks.ensures.each n d lt).1 in
    if_ok (get_or chunks n d)
    (λ t texts. (
      (texts routes).0 ∙ ap (flat_map first) one.argument_is.value,
      (texts routes).1 ∙ ap (flat_map second) one.argument_is.value,
    ))
    one.call)
    c.requires (sym c.in_ok-chunks.chunks.ok.0 ∙ c.in_ok-chunks.ensures.len))
    c.all_written.ensures
