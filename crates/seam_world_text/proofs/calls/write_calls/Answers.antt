use Rattle.std.proofs.Common.{◌≡◌, ◌++◌, List, ap, ◌∙◌, subst}
use Rattle.std.specs.List.{flat_map}
use Rattle.std.proofs.lemmas.Result.{on_ok_weaker}
use Rattle.seam_defs.specs.declared.flags.Part.TheVariants as part
use Rattle.seam_node_steps.specs.Prelude.{TypeDef, World}
use Rattle.seam_law_transcript.specs.Prelude.{data_of}
use Rattle.seam_world_text.specs.Finding.{RoutesLeadHome, done_found}
use Rattle.seam_world_text.specs.RoundParts.{calls_text, done_of_type, all_done_of}
use Rattle.seam_world_text.specs.declared.residents.Resident.{Resident}
use Rattle.seam_world_text.proofs.Pieces.{calls_written}
use Rattle.seam_world_text.proofs.calls.write_calls.Goals as goal

pub returns : goal.returns
returns g c =
    let round = c.args.round.now in
    let rs = round.present.now in
    let defs = round.defs.now in
    let at = c.args.called.now in
    let first = c.args.out.now.items in
    let listed = c.as_slice.ensures.value ∙ c.in_ok-residents.ensures in
    on_ok_weaker c.write_done.result
    (λ done h s tree w v p bounds called is.
    let d = data_of h s tree w v p bounds in
    let law = c.what_is_found_is_printed.ensures in
    let did = subst
    (λ (u : World). flat_map (λ r. done_of_type r.made.ty (done_found part.Cell u r.made.entity)) rs ≡ d.did) called
    (law.did h s tree w v p bounds rs is.present) in
    let dob = subst
    (λ (u : World). flat_map (λ r. done_of_type r.made.ty (done_found part.Base u r.made.entity)) rs ≡ d.dob) called
    (law.dob h s tree w v p bounds rs is.present) in
    done (subst RoutesLeadHome called (law.routes h s tree w v p).0)
    ∙ ap (λ (l : List Resident). first ++ all_done_of defs at l) listed
    ∙ ap (λ l. first ++ l) (calls_written rs defs d at did dob)
    ∙ ap (λ (ds : List TypeDef). first ++ calls_text ds d) is.defs)
    c.write_done.ensures
