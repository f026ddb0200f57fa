use Rattle.std.proofs.Common.{◌∙◌, ◌*◌, get_or, drop, ap, sym, subst}
use Rattle.std.specs.List.{flat_map, All}
use Rattle.std.proofs.lemmas.List.Elements.{All-take, All-drop}
use Rattle.seam_world_text.specs.RoundParts.{base_of, shown_of}
use Rattle.seam_world_text.specs.Told.{ShowOf, told_by}
use Rattle.seam_world_text.specs.declared.residents.Resident.{Resident}
use Rattle.seam_judge_expected.proofs.ListedLemmas.{if_ok}
use Rattle.seam_world_text.proofs.Joining.{texts_join}
use Rattle.seam_world_text.proofs.ends.told_in_chunks.Goals as goal

pub returns : goal.returns
returns g c =
    let first = base_of c.args.defs.now c.args.world.now in
    let second = shown_of c.args.defs.now c.args.kept.now c.args.world.now in
    let size = c.args.size in
    let rs = c.args.residents.now in
    let chunks = c.in_ok-chunks.chunks.items in
    if_ok c.all_written.result
    (λ ts are vs all. texts_join first second size rs chunks ts.items are
    (λ n d lt.
    let shows : Resident → Type 0 = λ r. ShowOf vs (told_by c.args.kept.now c.args.world.now r) in
    let one = (c.in_ok-chunks.ensures.each n d lt).1 in
    let all_one = subst (All shows) (sym one.argument_is.value)
    (All-take shows size (drop (n * size) rs) (All-drop shows (n * size) rs all)) in
    if_ok (get_or chunks n d)
    (λ t texts. (
      (texts vs all_one).0 ∙ ap (flat_map first) one.argument_is.value,
      (texts vs all_one).1 ∙ ap (flat_map second) one.argument_is.value,
    ))
    one.call)
    c.requires (sym c.in_ok-chunks.chunks.ok.0 ∙ c.in_ok-chunks.ensures.len))
    c.all_written.ensures
