use Rattle.std.proofs.Common.{◌≡◌, ◌∙◌, subst}
use Rattle.std.specs.List.{flat_map}
use Rattle.seam_defs.specs.declared.flags.Part.TheVariants as part
use Rattle.seam_node_steps.specs.Nodes.{World}
use Rattle.seam_judge_expected.proofs.ListedLemmas.{if_ok}
use Rattle.seam_law_transcript.specs.Playing.{data_of}
use Rattle.seam_world_text.specs.Finding.{RoutesLeadHome, done_found}
use Rattle.seam_world_text.specs.RoundParts.{done_of_type}
use Rattle.seam_world_text.proofs.Pieces.{did_counted}
use Rattle.seam_world_text.proofs.sums.count_did.Goals as goal

pub returns : goal.returns
returns c =
    let rs = c.args.present.now in
    let law = c.what_is_found_is_printed.ensures in
    if_ok c.count_calls.result
    (λ n is h s tree w v p bounds called present.
    let did = (data_of h s tree w v p bounds).did in
    is (subst RoutesLeadHome called (law.routes h s tree w v p).0)
    ∙ did_counted c.by_number.result.now rs c.by_number.ensures.list c.args.called.now did
    (subst (λ (u : World). flat_map (λ r. done_of_type r.made.ty (done_found part.Cell u r.made.entity)) rs ≡ did) called
    (law.did h s tree w v p bounds rs present)))
    c.count_calls.ensures
