use Rattle.std.proofs.Common.{◌≡◌, ◌++◌, List, sym, ap, ◌∙◌, subst, append_assoc}
use Rattle.std.specs.Prelude.{codes}
use Rattle.std.specs.List.{All, flat_map}
use Rattle.std.proofs.lemmas.Result.{on_ok_weaker}
use Rattle.seam_defs.specs.declared.types.TypeDef.{TypeDef}
use Rattle.seam_rule_rounds.specs.Prelude.{bounds_text, number_text}
use Rattle.seam_rule_rounds.specs.RoundTexts.{client_text}
use Rattle.seam_law_transcript.specs.Playing.{data_of}
use Rattle.seam_world_text.specs.RoundParts.{ends_text, left_of, shown_of}
use Rattle.seam_world_text.specs.Told.{ShowOf, told_by}
use Rattle.seam_world_text.specs.declared.residents.Resident.{Resident}
use Rattle.seam_world_text.proofs.Pieces.{ends_written}
use Rattle.seam_world_text.proofs.ends.write_ends.Goals as goal

pub returns : goal.returns
returns g c =
    let round = c.args.round.now in
    let rs = round.present.now in
    let defs = round.defs.now in
    let v = c.args.ended.now in
    let kept = c.args.kept.now in
    let first = c.args.out.now.items in
    let listed = c.as_slice.ensures.value ∙ c.in_ok-residents.ensures in
    on_ok_weaker c.push_number_line.result
    (λ last h s tree w p is farewells.
    let d = data_of h s tree w v p c.args.bounds.now in
    let law = c.what_is_found_is_printed.ensures in
    let shown = subst (λ (ds : List TypeDef). flat_map (shown_of ds kept v) rs ≡ flat_map (client_text ds) d.shown) (sym is.defs)
    (law.shown h s tree w v p c.args.bounds.now rs is.present kept farewells) in
    let versions = law.versions h s tree w v p rs is.present kept farewells in
    let told = subst (All (λ r. ShowOf versions.0 (told_by kept v r))) (sym listed) versions.1 in
    let left = c.in_ok-write_left.ensures (law.routes h s tree w v p).1 versions.0 told
    ∙ ap (λ (l : List Resident). first ++ left_of defs kept v l) listed in
    let bounds = bounds_text d.bounds in
    let number = number_text (codes "end ") round.number in
    last ∙ ap (λ l. l ++ number)
    (c.in_ok-push_tree.ensures ∙ ap (λ l. l ++ bounds) left ∙ append_assoc first (left_of defs kept v rs) bounds)
    ∙ append_assoc first (left_of defs kept v rs ++ bounds) number
    ∙ ap (λ l. first ++ l) (ends_written rs defs d v kept round.number is.number
    (law.homes h s tree w v p c.args.bounds.now rs is.present) (law.bases h s tree w v p c.args.bounds.now rs is.present)
    (law.ghosts h s tree w v p c.args.bounds.now rs is.present) shown)
    ∙ ap (λ (ds : List TypeDef). first ++ ends_text ds d) is.defs)
    c.push_number_line.ensures
